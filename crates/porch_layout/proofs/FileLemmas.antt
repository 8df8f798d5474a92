-- What a layouts file says, step by step, and that each layout of one may be used.
use Rattle.std.proofs.Common.{◌≡◌, ℕ, ℤ, pos, nat_le, ◌<◌, ◌≤◌, Bool, true, false, ◌&&◌, cond, List, [], ◌∷◌, length, Option, Some, None, Result, Ok, Err, String, Global, string_bytes, IfOk, nat_eq, ◌⊎◌, refl, ap, subst, inl, inr, arith, rules}
use Rattle.std.specs.Option.{option_and_then}
use Rattle.std.proofs.lemmas.Bool.{le-ltb, and_parts}
use Rattle.std.proofs.lemmas.Bool.Decides.{nat_tests}
use Rattle.std.specs.List.{list_all}
use Rattle.std.specs.Map.{keys_of}
use Rattle.std.specs.Str.{IsUtf8, is_utf8}
use Rattle.std.specs.Ordering.{int_eq}
use Rattle.std.proofs.lemmas.Str.{IsUtf8-from_is_utf8, is_utf8-from_IsUtf8}
use Rattle.toml.specs.Parse.{parse_document}
use Rattle.toml.specs.Data.{Data, as_integer, as_table, Members, get_member}
use Rattle.toml.specs.View.{members_view}
use Rattle.toml.specs.declared.value.Value.{Value}
use Rattle.porch_layout.specs.declared.layout.Layout.{Layout}
use Rattle.porch_layout.specs.declared.fault.LayoutKey.{LayoutKey}
use Rattle.porch_layout.specs.declared.fault.LayoutKey.TheVariants.{Other, Order, Long, Pointer, AlignShort, AlignInt, AlignLong, AlignPointer, LeastStruct}
use Rattle.porch_layout.specs.declared.fault.LayoutRule.TheVariants.{UnknownKey}
use Rattle.porch_layout.specs.declared.fault.LayoutFault.{LayoutFault}
use Rattle.porch_layout.specs.declared.fault.LayoutFault.TheVariants.{BadLayout, NoMemory}
use Rattle.porch_layout.specs.Words.{key_name}
use Rattle.porch_layout.specs.Layouts.{IsSize, IsAlignment, IsAlignmentWithin, IsLayout, layout}
use Rattle.porch_layout.specs.Files.{UnlessMemory, layout_of, layout_of_tables, tables_of, layout_at, layout_of_data, layout_in, layout_by_keys, are_layout_keys, is_layout_key, choice_of, sizes, alignments, number_in, number_at, valued, and_then, order_at}

-- the keys of a map are those of its members
pub all_keys : (es : List (String Global × Value)) → list_all (λ key. is_layout_key (string_bytes key)) (keys_of es) ≡ are_layout_keys (members_view es)
all_keys [] = refl
all_keys (e ∷ es) = ap (λ b. is_layout_key (string_bytes e.0) && b) (all_keys es)

-- bytes that are no text fail the test
pub is_utf8-no : (bs : List ℕ) → (IsUtf8 bs → ⊥) → is_utf8 bs ≡ false
is_utf8-no bs bad = elim (is_utf8 bs) as (λ b. (b ≡ true → IsUtf8 bs) → b ≡ false) [ true ↦ λ h. absurd (bad (h refl)) | false ↦ λ h. refl ] (IsUtf8-from_is_utf8 bs)

-- a text that is not too long, by its tables
pub layout_of-tables : (text name : List ℕ) → length text ≤ 65536 → layout_of text name ≡ layout_of_tables (tables_of text) name
layout_of-tables text name h = rw (le-ltb 65536 (length text) h)

pub tables_of-no : (text : List ℕ) → 0 < length text → (IsUtf8 text → ⊥) → tables_of text ≡ None
tables_of-no [] some bad = absurd (omega arith)
tables_of-no (b ∷ bs) some bad = rw (is_utf8-no (b ∷ bs) bad)

pub tables_of-parsed : (text : List ℕ) → 0 < length text → IsUtf8 text → tables_of text ≡ parse_document text
tables_of-parsed [] some good = absurd (omega arith)
tables_of-parsed (b ∷ bs) some good = rw (is_utf8-from_IsUtf8 (b ∷ bs) good)

-- a length that isn't 0
pub some_bytes : (n : ℕ) → false ≡ nat_eq n 0 → 0 < n
some_bytes n h = grind (arith, nat_tests)

-- what a search finds, one element further
found_next : (P : ℕ → Type 0) (p : ℕ → Bool) (x : ℕ) (rest : Option ℕ) (n : ℕ) → P x → (rest ≡ Some n → P n × (p n ≡ true)) → cond (p x) (Some x) rest ≡ Some n → P n × (p n ≡ true)
found_next P p x rest n here more =
    elim (p x) as (λ b. p x ≡ b → cond b (Some x) rest ≡ Some n → P n × (p n ≡ true)) [
      | true ↦ λ e h.
          let same : x ≡ n = cc in
          let Q : ℕ → Type 0 = λ m. p m ≡ true in
          (subst P same here, subst Q same e)
      | false ↦ λ e h. more h
    ] refl

-- the sizes and alignments that are chosen
choice_of-size : (most : ℕ) (z : ℤ) (n : ℕ) → choice_of sizes most z ≡ Some n → IsSize n
choice_of-size most z n h =
    let test : ℕ → Bool = λ n. int_eq (pos n) z && nat_le n most in
    (found_next IsSize test 4 _ n (inl refl) (found_next IsSize test 8 None n (inr refl) (λ e. absurd (cc))) h).0

choice_of-alignment : (most : ℕ) (z : ℤ) (n : ℕ) → choice_of alignments most z ≡ Some n → IsAlignmentWithin most n
choice_of-alignment most z n h =
    let test : ℕ → Bool = λ n. int_eq (pos n) z && nat_le n most in
    let found : IsAlignment n × (test n ≡ true) =
    found_next IsAlignment test 1 _ n (inl refl) (found_next IsAlignment test 2 _ n (inr (inl refl)) (found_next IsAlignment test 4 _ n (inr (inr (inl refl))) (found_next IsAlignment test 8 None n (inr (inr (inr refl))) (λ e. absurd (cc))))) h
    in
    let (same, less) = and_parts (int_eq (pos n) z) (nat_le n most) found.1 in
    record { alignment = found.0; within = grind (arith, nat_tests) }

-- a number that is taken was a choice
number_at-choice : (key : LayoutKey) (choices : List ℕ) (most : ℕ) (P : ℕ → Type 0) → ((z : ℤ) (n : ℕ) → choice_of choices most z ≡ Some n → P n) → (d : Option Data) (n : ℕ) → number_at key choices most d ≡ Ok n → P n
number_at-choice key choices most P chosen None n h = absurd (cc)
number_at-choice key choices most P chosen (Some v) n h = valued_here (as_integer v) n h
  where
    valued_choice : (z : ℤ) (o : Option ℕ) (n : ℕ) → choice_of choices most z ≡ o → valued key o ≡ Ok n → P n
    valued_choice z None n e h = absurd (cc)
    valued_choice z (Some m) n e h = chosen z n (cc)

    valued_here : (o : Option ℤ) (n : ℕ) → valued key (option_and_then (choice_of choices most) o) ≡ Ok n → P n
    valued_here None n h = absurd (cc)
    valued_here (Some z) n h = valued_choice z (choice_of choices most z) n refl h

-- steps that end well have values
and_then-ok : {A B : Type 0} (r : Result A LayoutFault) (next : A → Result B LayoutFault) (y : B) (P : Type 0) → and_then r next ≡ Ok y → ((x : A) → r ≡ Ok x → next x ≡ Ok y → P) → P
and_then-ok (Err e) next y P h use_it = absurd (cc)
and_then-ok (Ok x) next y P h use_it = use_it x refl h

-- a number among the sizes, and one among the alignments
number_in-size : (key : LayoutKey) (most : ℕ) (table : Members) (n : ℕ) → number_in key sizes most table ≡ Ok n → IsSize n
number_in-size key most table = number_at-choice key sizes most IsSize (choice_of-size most) (get_member (key_name key) table)

number_in-alignment : (key : LayoutKey) (most : ℕ) (table : Members) (n : ℕ) → number_in key alignments most table ≡ Ok n → IsAlignmentWithin most n
number_in-alignment key most table = number_at-choice key alignments most (IsAlignmentWithin most) (choice_of-alignment most) (get_member (key_name key) table)

-- a table that describes a layout describes one that may be used
layout_by_keys-ok : (table : Members) (l : Layout) → layout_by_keys table ≡ Ok l → IsLayout l
layout_by_keys-ok table l h =
    and_then-ok (order_at (get_member (key_name Order) table)) _ l (IsLayout l) h (λ big _ h.
    and_then-ok (number_in Long sizes 8 table) _ l (IsLayout l) h (λ long at_1 h.
    and_then-ok (number_in Pointer sizes 8 table) _ l (IsLayout l) h (λ pointer at_2 h.
    and_then-ok (number_in AlignShort alignments 2 table) _ l (IsLayout l) h (λ short at_3 h.
    and_then-ok (number_in AlignInt alignments 4 table) _ l (IsLayout l) h (λ int at_4 h.
    and_then-ok (number_in AlignLong alignments long table) _ l (IsLayout l) h (λ at_long at_5 h.
    and_then-ok (number_in AlignPointer alignments pointer table) _ l (IsLayout l) h (λ at_pointer at_6 h.
    and_then-ok (number_in LeastStruct alignments 8 table) _ l (IsLayout l) h (λ least at_7 h.
    let same : layout big long pointer short int at_long at_pointer least ≡ l = cc in
    subst IsLayout same (record {
      long = number_in-size Long 8 table long at_1;
      pointer = number_in-size Pointer 8 table pointer at_2;
      align_short = number_in-alignment AlignShort 2 table short at_3;
      align_int = number_in-alignment AlignInt 4 table int at_4;
      align_long = number_in-alignment AlignLong long table at_long at_5;
      align_pointer = number_in-alignment AlignPointer pointer table at_pointer at_6;
      least_struct = number_in-alignment LeastStruct 8 table least at_7;
    })))))))))

layout_in-ok : (table : Members) (l : Layout) → layout_in table ≡ Ok l → IsLayout l
layout_in-ok table l = elim (are_layout_keys table) as (λ b. cond b (layout_by_keys table) (Err (BadLayout Other UnknownKey)) ≡ Ok l → IsLayout l) [
  | true ↦ layout_by_keys-ok table l
  | false ↦ λ h. absurd (cc)
]

if_ok : (r : Result Layout LayoutFault) → ((l : Layout) → r ≡ Ok l → IsLayout l) → IfOk r IsLayout
if_ok (Ok l) each = each l refl
if_ok (Err e) each = tt

-- what has the name gives a layout that may be used
pub layout_at-allowed : (found : Option Data) → IfOk (layout_at found) IsLayout
layout_at-allowed None = tt
layout_at-allowed (Some value) = elim (as_table value) as (λ o. IfOk (layout_of_data o) IsLayout) [ Some table ↦ if_ok (layout_in table) (layout_in-ok table) | None ↦ tt ]

-- an answer is the one wanted
pub unless_memory : (r : Result Layout LayoutFault) → UnlessMemory r r
unless_memory (Ok l) = refl
unless_memory (Err (BadLayout key rule)) = refl
unless_memory (Err NoMemory) = tt
