-- Each rule of layouts files is answered exactly where it is broken.
use Rattle.std.proofs.Common.{◌≡◌, ℕ, ◌<◌, ◌≤◌, ◌⊎◌, Bool, true, false, nat_lt, cond, List, [], ◌∷◌, length, Option, Some, None, Result, Ok, Err, refl, ap, sym, ◌∙◌, is_some, inl, inr}
use Rattle.std.specs.Option.{option_and_then, option_map_or}
use Rattle.std.proofs.lemmas.Bool.{lt-ltb, ltb-true, ltb-false}
use Rattle.toml.specs.Data.{Data, as_integer, as_str, as_table, Members, get_member}
use Rattle.porch_layout.specs.declared.layout.Layout.{Layout}
use Rattle.porch_layout.specs.declared.fault.LayoutKey.{LayoutKey}
use Rattle.porch_layout.specs.declared.fault.LayoutKey.TheVariants.{File, Name, Other, Order, Long, Pointer, AlignShort, AlignInt, AlignLong, AlignPointer, LeastStruct}
use Rattle.porch_layout.specs.declared.fault.LayoutRule.{LayoutRule}
use Rattle.porch_layout.specs.declared.fault.LayoutRule.TheVariants.{TooLong, NotToml, NoName, NotTable, UnknownKey, MissingKey, BadValue}
use Rattle.porch_layout.specs.declared.fault.LayoutFault.{LayoutFault}
use Rattle.porch_layout.specs.declared.fault.LayoutFault.TheVariants.{BadLayout, NoMemory}
use Rattle.porch_layout.specs.Words.{key_name}
use Rattle.porch_layout.specs.Files.{UnlessMemory, layout_of, layout_of_tables, tables_of, layout_at, layout_of_data, layout_in, layout_by_keys, layout_keys, are_layout_keys, choice_of, sizes, alignments, number_in, number_at, valued, and_then, order_at, order_of}
use Rattle.porch_layout.specs.Rules.{RefusesWhere, Says, Describes, BreaksAt, HasUnknownKey, HasNoTable, IsNotToml, number_of, number_breaks, order_breaks, breaks, or_next, first_broken}
use Rattle.porch_layout.proofs.FileLemmas.{layout_of-tables}

-- an answer that is the one wanted unless memory ran out
refuses : (result want : Result Layout LayoutFault) (key : LayoutKey) (rule : LayoutRule) (P : Type 0) → UnlessMemory result want
    → (want ≡ Err (BadLayout key rule) → P) → (P → want ≡ Err (BadLayout key rule)) → RefusesWhere result key rule P
refuses (Ok l) want key rule P same only each = record { only = λ e. absurd (cc); each = λ p. let h : want ≡ Err (BadLayout key rule) = each p in absurd (cc) }
refuses (Err NoMemory) want key rule P same only each = record { only = λ e. absurd (cc); each = λ p. inr refl }
refuses (Err (BadLayout k r)) want key rule P same only each =
    record { only = λ e. only (same ∙ e); each = λ p. inl (sym same ∙ each p) }

-- the fault of an answer
abbrev fault_of : Result Layout LayoutFault → Option (LayoutKey × LayoutRule)
fault_of (Ok l) = None
fault_of (Err NoMemory) = None
fault_of (Err (BadLayout key rule)) = Some (key, rule)

-- the parts of a key with a rule
key_in : Option (LayoutKey × LayoutRule) → Option LayoutKey
key_in None = None
key_in (Some p) = Some p.0

rule_in : Option (LayoutKey × LayoutRule) → Option LayoutRule
rule_in None = None
rule_in (Some p) = Some p.1

same_key : (a b : LayoutKey × LayoutRule) → Some a ≡ Some b → a.0 ≡ b.0
unfolding key_in
same_key a b h = let e : Some a.0 ≡ Some b.0 = ap key_in h in cc

same_rule : (a b : LayoutKey × LayoutRule) → Some a ≡ Some b → a.1 ≡ b.1
unfolding rule_in
same_rule a b h = let e : Some a.1 ≡ Some b.1 = ap rule_in h in cc

fault_of-is : (r : Result Layout LayoutFault) (key : LayoutKey) (rule : LayoutRule) → fault_of r ≡ Some (key, rule) → r ≡ Err (BadLayout key rule)
fault_of-is (Ok l) key rule h = absurd (cc)
fault_of-is (Err NoMemory) key rule h = absurd (cc)
fault_of-is (Err (BadLayout k r)) key rule h =
    let a : k ≡ key = same_key (k, r) (key, rule) h in
    let b : r ≡ rule = same_rule (k, r) (key, rule) h in
    ap (λ k. Err (BadLayout k r)) a ∙ ap (λ r. Err (BadLayout key r)) b

-- a key whose value is a number
number_step : (key : LayoutKey) (choices : List ℕ) (most : ℕ) (d : Option Data) (next : ℕ → Result Layout LayoutFault) (rest : Option (LayoutKey × LayoutRule))
    → ((x : ℕ) → number_at key choices most d ≡ Ok x → fault_of (next x) ≡ rest)
    → fault_of (and_then (number_at key choices most d) next) ≡ or_next key (number_breaks choices most d) rest
number_step key choices most None next rest goes = refl
number_step key choices most (Some value) next rest goes =
    elim (option_and_then (choice_of choices most) (as_integer value)) as (λ o. option_and_then (choice_of choices most) (as_integer value) ≡ o
    → fault_of (and_then (valued key o) next) ≡ or_next key (cond (is_some o) None (Some BadValue)) rest) [
      | None ↦ λ e. refl
      | Some x ↦ λ e. goes x (ap (valued key) e)
    ] refl

order_step : (d : Option Data) (next : Bool → Result Layout LayoutFault) (rest : Option (LayoutKey × LayoutRule))
    → ((x : Bool) → fault_of (next x) ≡ rest) → fault_of (and_then (order_at d) next) ≡ or_next Order (order_breaks d) rest
order_step None next rest goes = refl
order_step (Some value) next rest goes =
    elim (option_and_then order_of (as_str value)) as (λ o. fault_of (and_then (valued Order o) next) ≡ or_next Order (cond (is_some o) None (Some BadValue)) rest) [
      | None ↦ refl
      | Some x ↦ goes x
    ]

-- a size that was taken is the number that the table has for it
size_is : (key : LayoutKey) (table : Members) (x : ℕ) → number_in key sizes 8 table ≡ Ok x → x ≡ number_of key table
size_is key table x h = size_at (get_member (key_name key) table) h
  where
    size_valued : (o : Option ℕ) → valued key o ≡ Ok x → x ≡ option_map_or (λ n. n) o 0
    size_valued None h = absurd (cc)
    size_valued (Some n) h = cc

    size_at : (d : Option Data) → number_at key sizes 8 d ≡ Ok x → x ≡ option_map_or (λ n. n) (option_and_then (λ value. option_and_then (choice_of sizes 8) (as_integer value)) d) 0
    size_at None h = absurd (cc)
    size_at (Some value) h = size_valued (option_and_then (choice_of sizes 8) (as_integer value)) h

-- the fault of the values of a table is that of the first key that breaks a rule
by_keys : (table : Members) → fault_of (layout_by_keys table) ≡ first_broken table layout_keys
by_keys table =
    let at : LayoutKey → Option Data = λ key. get_member (key_name key) table in
    order_step (at Order) _ _ (λ big.
    number_step Long sizes 8 (at Long) _ _ (λ long is_long.
    number_step Pointer sizes 8 (at Pointer) _ _ (λ pointer is_pointer.
    number_step AlignShort alignments 2 (at AlignShort) _ _ (λ short _.
    number_step AlignInt alignments 4 (at AlignInt) _ _ (λ int _.
    align_step AlignLong long (number_of Long table) (size_is Long table long is_long) (at AlignLong) _ _ (λ at_long _.
    align_step AlignPointer pointer (number_of Pointer table) (size_is Pointer table pointer is_pointer) (at AlignPointer) _ _ (λ at_pointer _.
    number_step LeastStruct alignments 8 (at LeastStruct) _ _ (λ least _. refl))))))))
  where
    align_step : (key : LayoutKey) (most same : ℕ) → most ≡ same → (d : Option Data) (next : ℕ → Result Layout LayoutFault) (rest : Option (LayoutKey × LayoutRule))
        → ((x : ℕ) → number_at key alignments most d ≡ Ok x → fault_of (next x) ≡ rest)
        → fault_of (and_then (number_at key alignments most d) next) ≡ or_next key (number_breaks alignments same d) rest
    align_step key most same e d next rest goes = number_step key alignments most d next rest goes ∙ ap (λ n. or_next key (number_breaks alignments n d) rest) e

-- no key breaks another rule than these
record IsKeyRule (rule : LayoutRule) : Type 0 where
  is : (rule ≡ MissingKey) ⊎ (rule ≡ BadValue)

number_rule : (choices : List ℕ) (most : ℕ) (d : Option Data) (rule : LayoutRule) → number_breaks choices most d ≡ Some rule → IsKeyRule rule
number_rule choices most None rule h = record { is = inl (cc) }
number_rule choices most (Some value) rule h =
    elim (is_some (option_and_then (choice_of choices most) (as_integer value))) as (λ b. cond b None (Some BadValue) ≡ Some rule → IsKeyRule rule)
    [ true ↦ λ e. absurd (cc) | false ↦ λ e. record { is = inr (cc) } ] h

order_rule : (d : Option Data) (rule : LayoutRule) → order_breaks d ≡ Some rule → IsKeyRule rule
order_rule None rule h = record { is = inl (cc) }
order_rule (Some value) rule h =
    elim (is_some (option_and_then order_of (as_str value))) as (λ b. cond b None (Some BadValue) ≡ Some rule → IsKeyRule rule)
    [ true ↦ λ e. absurd (cc) | false ↦ λ e. record { is = inr (cc) } ] h

breaks_rule : (table : Members) (key : LayoutKey) (rule : LayoutRule) → breaks table key ≡ Some rule → IsKeyRule rule
breaks_rule table Order rule h = order_rule (get_member (key_name Order) table) rule h
breaks_rule table Long rule h = number_rule sizes 8 (get_member (key_name Long) table) rule h
breaks_rule table Pointer rule h = number_rule sizes 8 (get_member (key_name Pointer) table) rule h
breaks_rule table AlignShort rule h = number_rule alignments 2 (get_member (key_name AlignShort) table) rule h
breaks_rule table AlignInt rule h = number_rule alignments 4 (get_member (key_name AlignInt) table) rule h
breaks_rule table AlignLong rule h = number_rule alignments (number_of Long table) (get_member (key_name AlignLong) table) rule h
breaks_rule table AlignPointer rule h = number_rule alignments (number_of Pointer table) (get_member (key_name AlignPointer) table) rule h
breaks_rule table LeastStruct rule h = number_rule alignments 8 (get_member (key_name LeastStruct) table) rule h
breaks_rule table File rule h = absurd (cc)
breaks_rule table Name rule h = absurd (cc)
breaks_rule table Other rule h = absurd (cc)

first_rule : (table : Members) (keys : List LayoutKey) (key : LayoutKey) (rule : LayoutRule) → first_broken table keys ≡ Some (key, rule) → IsKeyRule rule
first_rule table [] key rule h = absurd (cc)
first_rule table (k ∷ keys) key rule h =
    elim (breaks table k) as (λ o. breaks table k ≡ o → or_next k o (first_broken table keys) ≡ Some (key, rule) → IsKeyRule rule) [
      | None ↦ λ e n. first_rule table keys key rule n
      | Some r ↦ λ e n. let same : r ≡ rule = same_rule (k, r) (key, rule) n in breaks_rule table k rule (e ∙ ap Some same)
    ] refl h

key_rule : (table : Members) (key : LayoutKey) (rule : LayoutRule) → layout_by_keys table ≡ Err (BadLayout key rule) → first_broken table layout_keys ≡ Some (key, rule)
key_rule table key rule h = sym (by_keys table) ∙ ap fault_of h

no_other : (table : Members) (key : LayoutKey) (rule : LayoutRule) → layout_by_keys table ≡ Err (BadLayout key rule) → IsKeyRule rule
no_other table key rule h = first_rule table layout_keys key rule (key_rule table key rule h)

-- what a text gives for a name, with what it says
data Outcome (text name : List ℕ) (want : Result Layout LayoutFault) : Type 0 where
  long : 65536 < length text → want ≡ Err (BadLayout File TooLong) → Outcome text name want
  untold : IsNotToml text → want ≡ Err (BadLayout File NotToml) → Outcome text name want
  nothing : Says text name None → want ≡ Err (BadLayout Name NoName) → Outcome text name want
  value : HasNoTable text name → want ≡ Err (BadLayout Name NotTable) → Outcome text name want
  extra : HasUnknownKey text name → want ≡ Err (BadLayout Other UnknownKey) → Outcome text name want
  keys : (table : Members) → Describes text name table → are_layout_keys table ≡ true → want ≡ layout_by_keys table → Outcome text name want

outcome_keys : (text name : List ℕ) (want : Result Layout LayoutFault) (table : Members) → Describes text name table → want ≡ layout_in table → Outcome text name want
outcome_keys text name want table d e =
    elim (are_layout_keys table) as (λ b. are_layout_keys table ≡ b → want ≡ cond b (layout_by_keys table) (Err (BadLayout Other UnknownKey)) → Outcome text name want) [
      | true ↦ λ k w. keys table d k w
      | false ↦ λ k w. extra (record { table = table; describes = d; unknown = k }) w
    ] refl e

outcome_value : (text name : List ℕ) (want : Result Layout LayoutFault) (found : Data) → Says text name (Some found) → want ≡ layout_of_data (as_table found) → Outcome text name want
outcome_value text name want found says e =
    elim (as_table found) as (λ o. as_table found ≡ o → want ≡ layout_of_data o → Outcome text name want) [
      | None ↦ λ t w. value (record { value = found; says = says; no_table = t }) w
      | Some table ↦ λ t w. outcome_keys text name want table (record { value = found; says = says; is_table = t }) w
    ] refl e

outcome_found : (text name : List ℕ) (want : Result Layout LayoutFault) (tables : Members) → length text ≤ 65536 → tables_of text ≡ Some tables
    → want ≡ layout_at (get_member name tables) → Outcome text name want
outcome_found text name want tables short read e =
    elim (get_member name tables) as (λ o. get_member name tables ≡ o → want ≡ layout_at o → Outcome text name want) [
      | None ↦ λ f w. nothing (record { short = short; tables = tables; read = read; said = f }) w
      | Some found ↦ λ f w. outcome_value text name want found (record { short = short; tables = tables; read = read; said = f }) w
    ] refl e

outcome_tables : (text name : List ℕ) (want : Result Layout LayoutFault) → length text ≤ 65536 → want ≡ layout_of_tables (tables_of text) name → Outcome text name want
outcome_tables text name want short e =
    elim (tables_of text) as (λ o. tables_of text ≡ o → want ≡ layout_of_tables o name → Outcome text name want) [
      | None ↦ λ t w. untold (record { short = short; none = t }) w
      | Some tables ↦ λ t w. outcome_found text name want tables short t w
    ] refl e

outcome : (text name : List ℕ) → Outcome text name (layout_of text name)
outcome text name =
    elim (nat_lt 65536 (length text)) as (λ b. nat_lt 65536 (length text) ≡ b → Outcome text name (cond b (Err (BadLayout File TooLong)) (layout_of_tables (tables_of text) name))) [
      | true ↦ λ e. long (ltb-true 65536 (length text) e) refl
      | false ↦ λ e. outcome_tables text name _ (ltb-false 65536 (length text) e) refl
    ] refl

-- what a text says of a name gives this
said : (text name : List ℕ) (found : Option Data) → Says text name found → layout_of text name ≡ layout_at found
said text name found s = layout_of-tables text name s.short ∙ ap (λ o. layout_of_tables o name) s.read ∙ ap layout_at s.said

described : (text name : List ℕ) (table : Members) → Describes text name table → layout_of text name ≡ layout_in table
described text name table d = said text name (Some d.value) d.says ∙ ap layout_of_data d.is_table

pub too_long : (text name : List ℕ) (result : Result Layout LayoutFault) → UnlessMemory result (layout_of text name) → RefusesWhere result File TooLong (65536 < length text)
too_long text name result same =
    refuses result (layout_of text name) File TooLong (65536 < length text) same
    (λ e. elim (outcome text name) [
      | long h w ↦ h
      | untold h w ↦ absurd (cc)
      | nothing h w ↦ absurd (cc)
      | value h w ↦ absurd (cc)
      | extra h w ↦ absurd (cc)
      | keys table d k w ↦ (let r : IsKeyRule TooLong = no_other table File TooLong (sym w ∙ e) in elim r.is [ inl a ↦ absurd (cc) | inr a ↦ absurd (cc) ])
    ])
    (λ h. rw (lt-ltb 65536 (length text) h) refl)

pub not_toml : (text name : List ℕ) (result : Result Layout LayoutFault) → UnlessMemory result (layout_of text name) → RefusesWhere result File NotToml (IsNotToml text)
not_toml text name result same =
    refuses result (layout_of text name) File NotToml (IsNotToml text) same
    (λ e. elim (outcome text name) [
      | long h w ↦ absurd (cc)
      | untold h w ↦ h
      | nothing h w ↦ absurd (cc)
      | value h w ↦ absurd (cc)
      | extra h w ↦ absurd (cc)
      | keys table d k w ↦ (let r : IsKeyRule NotToml = no_other table File NotToml (sym w ∙ e) in elim r.is [ inl a ↦ absurd (cc) | inr a ↦ absurd (cc) ])
    ])
    (λ h. layout_of-tables text name h.short ∙ ap (λ o. layout_of_tables o name) h.none)

pub no_name : (text name : List ℕ) (result : Result Layout LayoutFault) → UnlessMemory result (layout_of text name) → RefusesWhere result Name NoName (Says text name None)
no_name text name result same =
    refuses result (layout_of text name) Name NoName (Says text name None) same
    (λ e. elim (outcome text name) [
      | long h w ↦ absurd (cc)
      | untold h w ↦ absurd (cc)
      | nothing h w ↦ h
      | value h w ↦ absurd (cc)
      | extra h w ↦ absurd (cc)
      | keys table d k w ↦ (let r : IsKeyRule NoName = no_other table Name NoName (sym w ∙ e) in elim r.is [ inl a ↦ absurd (cc) | inr a ↦ absurd (cc) ])
    ])
    (λ h. said text name None h)

pub not_table : (text name : List ℕ) (result : Result Layout LayoutFault) → UnlessMemory result (layout_of text name) → RefusesWhere result Name NotTable (HasNoTable text name)
not_table text name result same =
    refuses result (layout_of text name) Name NotTable (HasNoTable text name) same
    (λ e. elim (outcome text name) [
      | long h w ↦ absurd (cc)
      | untold h w ↦ absurd (cc)
      | nothing h w ↦ absurd (cc)
      | value h w ↦ h
      | extra h w ↦ absurd (cc)
      | keys table d k w ↦ (let r : IsKeyRule NotTable = no_other table Name NotTable (sym w ∙ e) in elim r.is [ inl a ↦ absurd (cc) | inr a ↦ absurd (cc) ])
    ])
    (λ h. said text name (Some h.value) h.says ∙ ap layout_of_data h.no_table)

pub unknown_key : (text name : List ℕ) (result : Result Layout LayoutFault) → UnlessMemory result (layout_of text name) → RefusesWhere result Other UnknownKey (HasUnknownKey text name)
unknown_key text name result same =
    refuses result (layout_of text name) Other UnknownKey (HasUnknownKey text name) same
    (λ e. elim (outcome text name) [
      | long h w ↦ absurd (cc)
      | untold h w ↦ absurd (cc)
      | nothing h w ↦ absurd (cc)
      | value h w ↦ absurd (cc)
      | extra h w ↦ h
      | keys table d k w ↦ (let r : IsKeyRule UnknownKey = no_other table Other UnknownKey (sym w ∙ e) in elim r.is [ inl a ↦ absurd (cc) | inr a ↦ absurd (cc) ])
    ])
    (λ h. described text name h.table h.describes ∙ ap (λ b. cond b (layout_by_keys h.table) (Err (BadLayout Other UnknownKey))) h.unknown)

-- the same for the first key that breaks a rule
broken : (text name : List ℕ) (key : LayoutKey) (rule : LayoutRule) → BreaksAt text name key rule → layout_of text name ≡ Err (BadLayout key rule)
broken text name key rule h =
    described text name h.table h.describes ∙ ap (λ b. cond b (layout_by_keys h.table) (Err (BadLayout Other UnknownKey))) h.known
    ∙ fault_of-is (layout_by_keys h.table) key rule (by_keys h.table ∙ h.first)

breaks_here : (text name : List ℕ) (key : LayoutKey) (rule : LayoutRule) (want : Result Layout LayoutFault) (table : Members) → Describes text name table → are_layout_keys table ≡ true
    → want ≡ layout_by_keys table → want ≡ Err (BadLayout key rule) → BreaksAt text name key rule
breaks_here text name key rule want table d k w e = record { table = table; describes = d; known = k; first = key_rule table key rule (sym w ∙ e) }

pub missing_key : (text name : List ℕ) (key : LayoutKey) (result : Result Layout LayoutFault) → UnlessMemory result (layout_of text name)
    → RefusesWhere result key MissingKey (BreaksAt text name key MissingKey)
missing_key text name key result same =
    refuses result (layout_of text name) key MissingKey (BreaksAt text name key MissingKey) same
    (λ e. elim (outcome text name) [
      | long h w ↦ absurd (cc)
      | untold h w ↦ absurd (cc)
      | nothing h w ↦ absurd (cc)
      | value h w ↦ absurd (cc)
      | extra h w ↦ absurd (cc)
      | keys table d k w ↦ breaks_here text name key MissingKey (layout_of text name) table d k w e
    ])
    (broken text name key MissingKey)

pub bad_value : (text name : List ℕ) (key : LayoutKey) (result : Result Layout LayoutFault) → UnlessMemory result (layout_of text name)
    → RefusesWhere result key BadValue (BreaksAt text name key BadValue)
bad_value text name key result same =
    refuses result (layout_of text name) key BadValue (BreaksAt text name key BadValue) same
    (λ e. elim (outcome text name) [
      | long h w ↦ absurd (cc)
      | untold h w ↦ absurd (cc)
      | nothing h w ↦ absurd (cc)
      | value h w ↦ absurd (cc)
      | extra h w ↦ absurd (cc)
      | keys table d k w ↦ breaks_here text name key BadValue (layout_of text name) table d k w e
    ])
    (broken text name key BadValue)
