-- The rule Modes of the rewritten program's functions.
use Rattle.std.proofs.Common.{◌≡◌, ◌<◌, ℕ, zero, suc, ◌+◌, ◌*◌, List, [], ◌∷◌, ◌++◌, length, map, drop, refl, sym, ap, ◌∙◌, subst, arith, Bool, true, false, Some}
use Rattle.std.specs.Prelude.{slice_get, ◌-◌, nat_le, ◌==◌, ◌||◌, ◌&&◌, if◌then◌else◌, count_by}
use Rattle.std.specs.List.{list_any}
use Rattle.std.specs.Option.{option_map, option_and_then}
use Rattle.std.proofs.lemmas.Bool.Decides.{nat_tests}
use Rattle.std.proofs.lemmas.Grind.{common_steps}
use Rattle.porch_flat.specs.declared.whole.Command.{Command}
use Rattle.porch_flat.specs.declared.whole.Command.TheVariants as command
use Rattle.porch_flat.specs.declared.whole.Function.{Function}
use Rattle.porch_flat.specs.declared.whole.Flat.{Flat}
use Rattle.porch_flat.specs.whole.Form as form
use Rattle.porch_flat.specs.whole.Form.{Form, form_of, label_of, is_mode}
use Rattle.porch_flat.specs.whole.Places.{is_number, commands_of}
use Rattle.porch_flat.specs.whole.Calls.{is_checkpoint, is_call_of, IsClosed, IsLeastClosed}
use Rattle.porch_flat.specs.whole.Rewritten.{leads_to_checkpoint, reaches, places_from, same_number, same_numbers, last_label, is_marked, are_marked, has_ends, is_marked_at, is_rewritten, is_plain}
use Rattle.porch_rewrite.specs.Rewriting.{FIRST_LABEL, has_number, numbers_in, all_with_marks, tables, way_out, every_variable, front, back, saving_commands, with_commands, rewritten}
use Rattle.porch_rewrite.proofs.Arriving.{drop_here, drop_next, drop_append, append_more}
use Rattle.porch_rewrite.proofs.Filling.{tally, tally_is, leads_alike}
use Rattle.porch_rewrite.proofs.SameReach.{same_reach}

-- a command that leads to a checkpoint is one, or calls a function that reaches one
data Leading (p : ℕ → Bool) (g : Form) : Type 0 where
  itself : is_checkpoint g ≡ true → Leading p g
  calling : (k : ℕ) → is_call_of k g ≡ true → p k ≡ true → Leading p g

same_itself : (k : ℕ) → is_number k (Some k) ≡ true
same_itself k = grind (arith, nat_tests)

leading : (p : ℕ → Bool) (g : Form) → leads_to_checkpoint p g ≡ true → Leading p g
leading p (form.call r k os) h = calling k (same_itself k) h
leading p form.checkpoint h = itself refl
leading p (form.label k) h = absurd (cc)
leading p (form.jump k) h = absurd (cc)
leading p (form.branch o k) h = absurd (cc)
leading p (form.move v o) h = absurd (cc)
leading p (form.cast v w) h = absurd (cc)
leading p (form.operator op v a b) h = absurd (cc)
leading p (form.complement v o) h = absurd (cc)
leading p (form.comparison c v a b) h = absurd (cc)
leading p (form.subobject v within leaf) h = absurd (cc)
leading p (form.step way v q o) h = absurd (cc)
leading p (form.difference v q r) h = absurd (cc)
leading p (form.load v q) h = absurd (cc)
leading p (form.store q o) h = absurd (cc)
leading p (form.copy q r) h = absurd (cc)
leading p (form.kill v) h = absurd (cc)
leading p (form.allocate zeros v o) h = absurd (cc)
leading p (form.free q) h = absurd (cc)
leading p (form.show how v o) h = absurd (cc)
leading p (form.text v q) h = absurd (cc)
leading p form.turn h = absurd (cc)
leading p (form.return o) h = absurd (cc)
leading p (form.restore vs) h = absurd (cc)
leading p (form.table k n) h = absurd (cc)
leading p (form.saved k n) h = absurd (cc)
leading p (form.push vs) h = absurd (cc)

calls_lead : (p : ℕ → Bool) (g : Form) (k : ℕ) → is_call_of k g ≡ true → p k ≡ true → leads_to_checkpoint p g ≡ true
calls_lead p (form.call r h os) k is there = let same : k ≡ h = grind (arith, nat_tests, is) in subst (λ j. p j ≡ true) same there
calls_lead p form.checkpoint k is there = absurd (cc)
calls_lead p (form.label n) k is there = absurd (cc)
calls_lead p (form.jump n) k is there = absurd (cc)
calls_lead p (form.branch o n) k is there = absurd (cc)
calls_lead p (form.move v o) k is there = absurd (cc)
calls_lead p (form.cast v w) k is there = absurd (cc)
calls_lead p (form.operator op v a b) k is there = absurd (cc)
calls_lead p (form.complement v o) k is there = absurd (cc)
calls_lead p (form.comparison c v a b) k is there = absurd (cc)
calls_lead p (form.subobject v within leaf) k is there = absurd (cc)
calls_lead p (form.step way v q o) k is there = absurd (cc)
calls_lead p (form.difference v q r) k is there = absurd (cc)
calls_lead p (form.load v q) k is there = absurd (cc)
calls_lead p (form.store q o) k is there = absurd (cc)
calls_lead p (form.copy q r) k is there = absurd (cc)
calls_lead p (form.kill v) k is there = absurd (cc)
calls_lead p (form.allocate zeros v o) k is there = absurd (cc)
calls_lead p (form.free q) k is there = absurd (cc)
calls_lead p (form.show how v o) k is there = absurd (cc)
calls_lead p (form.text v q) k is there = absurd (cc)
calls_lead p form.turn k is there = absurd (cc)
calls_lead p (form.return o) k is there = absurd (cc)
calls_lead p (form.restore vs) k is there = absurd (cc)
calls_lead p (form.table j n) k is there = absurd (cc)
calls_lead p (form.saved j n) k is there = absurd (cc)
calls_lead p (form.push vs) k is there = absurd (cc)

checkpoints_lead : (p : ℕ → Bool) (g : Form) → is_checkpoint g ≡ true → leads_to_checkpoint p g ≡ true
checkpoints_lead p form.checkpoint is = refl
checkpoints_lead p (form.call r h os) is = absurd (cc)
checkpoints_lead p (form.label n) is = absurd (cc)
checkpoints_lead p (form.jump n) is = absurd (cc)
checkpoints_lead p (form.branch o n) is = absurd (cc)
checkpoints_lead p (form.move v o) is = absurd (cc)
checkpoints_lead p (form.cast v w) is = absurd (cc)
checkpoints_lead p (form.operator op v a b) is = absurd (cc)
checkpoints_lead p (form.complement v o) is = absurd (cc)
checkpoints_lead p (form.comparison c v a b) is = absurd (cc)
checkpoints_lead p (form.subobject v within leaf) is = absurd (cc)
checkpoints_lead p (form.step way v q o) is = absurd (cc)
checkpoints_lead p (form.difference v q r) is = absurd (cc)
checkpoints_lead p (form.load v q) is = absurd (cc)
checkpoints_lead p (form.store q o) is = absurd (cc)
checkpoints_lead p (form.copy q r) is = absurd (cc)
checkpoints_lead p (form.kill v) is = absurd (cc)
checkpoints_lead p (form.allocate zeros v o) is = absurd (cc)
checkpoints_lead p (form.free q) is = absurd (cc)
checkpoints_lead p (form.show how v o) is = absurd (cc)
checkpoints_lead p (form.text v q) is = absurd (cc)
checkpoints_lead p form.turn is = absurd (cc)
checkpoints_lead p (form.return o) is = absurd (cc)
checkpoints_lead p (form.restore vs) is = absurd (cc)
checkpoints_lead p (form.table j n) is = absurd (cc)
checkpoints_lead p (form.saved j n) is = absurd (cc)
checkpoints_lead p (form.push vs) is = absurd (cc)

-- tests of lists

record Passing {X : Type 0} (p : X → Bool) (xs : List X) : Type 0 where
  item : X
  place : ℕ
  here : slice_get xs place ≡ Some item
  passes : p item ≡ true

passing : {X : Type 0} (p : X → Bool) (xs : List X) → list_any p xs ≡ true → Passing p xs
passing p [] h = absurd (cc)
passing p (x ∷ xs) h = by_first (p x) refl (λ g. passing p xs g)
  where
    by_first : (b : Bool) → p x ≡ b → (list_any p xs ≡ true → Passing p xs) → Passing p (x ∷ xs)
    by_first true is more = record { item = x; place = 0; here = refl; passes = is }
    by_first false is more =
        let rest = more (subst (λ b. b || list_any p xs ≡ true) is h) in
        record { item = rest.item; place = suc rest.place; here = rest.here; passes = rest.passes }

either_true : (a b : Bool) → b ≡ true → a || b ≡ true
either_true true b h = refl
either_true false b h = h

any_passes : {X : Type 0} (p : X → Bool) (xs : List X) (i : ℕ) (x : X) → slice_get xs i ≡ Some x → p x ≡ true → list_any p xs ≡ true
any_passes p [] i x h g = absurd (cc)
any_passes p (y ∷ xs) zero x h g = let same : y ≡ x = cc in rw (same, g) refl
any_passes p (y ∷ xs) (suc i) x h g = either_true (p y) (list_any p xs) (any_passes p xs i x h g)

module _ (flat : Flat) (least : IsLeastClosed flat (reaches flat)) where
  abbrev reaching : ℕ → Bool
  reaching = reaches flat

  -- a function that reaches a checkpoint has a command at which it may, and one that doesn't has none
  abbrev leads_on : ℕ → Bool
  leads_on k = list_any (has_number reaching) (commands_of (slice_get flat.functions k))

  leads_reach : (k : ℕ) → leads_on k ≡ true → reaching k ≡ true
  leads_reach k h =
      let found = passing (has_number reaching) (commands_of (slice_get flat.functions k)) h in
      elim (leading reaching (form_of found.item) found.passes) [
        | itself is ↦ least.closed.checkpoints k (any_passes (λ c. is_checkpoint (form_of c)) (commands_of (slice_get flat.functions k)) found.place found.item found.here is)
        | calling g is there ↦
            least.closed.callers k g (any_passes (λ c. is_call_of g (form_of c)) (commands_of (slice_get flat.functions k)) found.place found.item found.here is) there
      ]

  weaker : (p q : Command → Bool) (cs : List Command) → ((c : Command) → p c ≡ true → q c ≡ true) → list_any p cs ≡ true → list_any q cs ≡ true
  weaker p q cs to h = let found = passing p cs h in any_passes q cs found.place found.item found.here (to found.item found.passes)

  leads_closed : IsClosed flat leads_on
  leads_closed = record {
    checkpoints = λ k h. weaker (λ c. is_checkpoint (form_of c)) (has_number reaching) (commands_of (slice_get flat.functions k)) (λ c is. checkpoints_lead reaching (form_of c) is) h;
    callers = λ k g call there.
        weaker (λ c. is_call_of g (form_of c)) (has_number reaching) (commands_of (slice_get flat.functions k)) (λ c is. calls_lead reaching (form_of c) g is (leads_reach g there)) call;
  }

  pub reach_leads : (k : ℕ) → reaching k ≡ true → leads_on k ≡ true
  reach_leads k h = least.least leads_on leads_closed k h

  -- a function that doesn't reach one is left alone

  abbrev test : Form → Bool
  test g = leads_to_checkpoint (reaches (rewritten flat)) g

  test_alike : (g : Form) → test g ≡ leads_to_checkpoint reaching g
  test_alike g = leads_alike (reaches (rewritten flat)) reaching (λ k. same_reach flat k) g

  no_places : (cs : List Command) (p : ℕ) → list_any (has_number reaching) cs ≡ false → places_from p test (map form_of cs) ≡ []
  no_places [] p h = refl
  no_places (c ∷ cs) p h = by_first (has_number reaching c) refl (λ g. no_places cs (p + 1) g)
    where
      by_first : (b : Bool) → has_number reaching c ≡ b → (list_any (has_number reaching) cs ≡ false → places_from (p + 1) test (map form_of cs) ≡ []) → places_from p test (map form_of (c ∷ cs)) ≡ []
      by_first true is more = absurd (let at : true ≡ false = subst (λ b. b || list_any (has_number reaching) cs ≡ false) is h in cc)
      by_first false is more = rw (test_alike (form_of c), is) (more (subst (λ b. b || list_any (has_number reaching) cs ≡ false) is h))

  leads_not : (k : ℕ) (b : Bool) → leads_on k ≡ b → reaching k ≡ false → leads_on k ≡ false
  leads_not k true is not = absurd (let there = leads_reach k is in let both : true ≡ false = sym there ∙ not in cc)
  leads_not k false is not = is

  pub alone_marked : (k : ℕ) (f : Function) → slice_get flat.functions k ≡ Some f → reaching k ≡ false → is_plain f ≡ true → is_rewritten (rewritten flat) f ≡ true
  alone_marked k f at not plain =
      let own : commands_of (slice_get flat.functions k) ≡ f.commands = rw at refl in
      let none : list_any (has_number reaching) f.commands ≡ false = subst (λ (cs : List Command). list_any (has_number reaching) cs ≡ false) own (leads_not k (leads_on k) refl not) in
      rw (no_places f.commands 0 none) plain

  -- one that does is marked

  map_get : (cs : List Command) (i : ℕ) → slice_get (map form_of cs) i ≡ option_map form_of (slice_get cs i)
  map_get [] i = refl
  map_get (c ∷ cs) zero = refl
  map_get (c ∷ cs) (suc i) = map_get cs i

  map_length : (cs : List Command) → length (map form_of cs) ≡ length cs
  map_length [] = refl
  map_length (c ∷ cs) = ap (λ k. suc k) (map_length cs)

  same_one : (n : ℕ) → n == n ≡ true
  same_one n = grind (arith, nat_tests)

  same_some : (n : ℕ) → same_number (Some n) (Some n) ≡ true
  same_some n = same_one n

  same_all : (ns : List ℕ) → same_numbers ns ns ≡ true
  same_all [] = refl
  same_all (n ∷ ns) = rw (same_one n, same_all ns) refl

  table_in : (count before j : ℕ) (rest : List Command) → j < count → slice_get (tables before count ++ rest) j ≡ Some (command.Table (before + j + 1) (FIRST_LABEL + (before + j)))
  table_in zero before j rest less = absurd (omega (arith, less))
  table_in (suc count) before zero rest less = let none : before + 0 ≡ before = omega arith in rw none refl
  table_in (suc count) before (suc j) rest less =
      let same : before + suc j ≡ before + 1 + j = omega arith in rw same (table_in count (before + 1) j rest (omega (arith, less)))

  module _ (f : Function) where
    abbrev made : List Command
    made = saving_commands reaching f

    abbrev forms : List Form
    forms = map form_of made

    abbrev out : ℕ
    out = way_out reaching f

    abbrev count : ℕ
    count = numbers_in reaching f.commands

    abbrev behind : ℕ → List Command → List Command
    behind before cs = all_with_marks reaching out before cs ++ back reaching f

    form_at : (i : ℕ) (c : Command) → slice_get made i ≡ Some c → slice_get forms i ≡ Some (form_of c)
    form_at i c at = map_get made i ∙ ap (λ o. option_map form_of o) at

    table_form : (before : ℕ) → before < count → slice_get forms (before + 1) ≡ Some (form.table (before + 1) (FIRST_LABEL + before))
    table_form before less =
        let next : before + 1 ≡ suc before = omega arith in
        let none : 0 + before ≡ before = omega arith in
        let at : slice_get made (suc before) ≡ Some (command.Table (0 + before + 1) (FIRST_LABEL + (0 + before))) = table_in count 0 before (behind 0 f.commands) less in
        subst (λ k. slice_get forms k ≡ Some (form.table (before + 1) (FIRST_LABEL + before))) (sym next)
        (form_at (suc before) (command.Table (before + 1) (FIRST_LABEL + before)) (subst (λ k. slice_get made (suc before) ≡ Some (command.Table (k + 1) (FIRST_LABEL + k))) none at))

    length_two : (xs ys : List Command) → length (xs ++ ys) ≡ length xs + length ys
    length_two xs ys = grind (arith, common_steps)

    abbrev ahead : List Command
    ahead = front reaching f ++ all_with_marks reaching out 0 f.commands

    made_is : made ≡ ahead ++ back reaching f
    made_is = sym (append_more (front reaching f) (all_with_marks reaching out 0 f.commands) (back reaching f))

    forms_length : length forms ≡ length ahead + 2
    forms_length = map_length made ∙ ap (λ (l : List Command). length l) made_is ∙ length_two ahead (back reaching f)

    at_back : drop (length ahead) made ≡ back reaching f
    at_back = ap (λ cs. drop (length ahead) cs) made_is ∙ drop_append ahead (back reaching f)

    last_is : last_label forms ≡ Some out
    last_is =
        let place : length forms - 2 ≡ length ahead = (let long = forms_length in omega (arith, long)) in
        ap (λ k. option_and_then label_of (slice_get forms k)) place
        ∙ ap (λ o. option_and_then label_of o) (form_at (length ahead) (command.Label out) (drop_here made (length ahead) (command.Label out) (command.Push (every_variable reaching f) ∷ []) at_back))

    push_is : slice_get forms (length forms - 1) ≡ Some (form.push (every_variable reaching f))
    push_is =
        let place : length forms - 1 ≡ length ahead + 1 = (let long = forms_length in omega (arith, long)) in
        ap (λ k. slice_get forms k) place
        ∙ form_at (length ahead + 1) (command.Push (every_variable reaching f))
        (drop_here made (length ahead + 1) (command.Push (every_variable reaching f)) [] (drop_next made (length ahead) (command.Label out) (command.Push (every_variable reaching f) ∷ []) at_back))

    one_marked : (before p : ℕ) (c : Command) (rest : List Command) → before < count → drop p made ≡ command.Label (FIRST_LABEL + before) ∷ c ∷ command.Saved (before + 1) out ∷ rest
        → is_marked (length f.vars) forms (before + 1) (p + 1) ≡ true
    one_marked before p c rest less at =
        let label = form_at p (command.Label (FIRST_LABEL + before)) (drop_here made p (command.Label (FIRST_LABEL + before)) (c ∷ command.Saved (before + 1) out ∷ rest) at) in
        let behind_label = drop_next made p (command.Label (FIRST_LABEL + before)) (c ∷ command.Saved (before + 1) out ∷ rest) at in
        let behind_c = drop_next made (p + 1) c (command.Saved (before + 1) out ∷ rest) behind_label in
        let saved = form_at (p + 1 + 1) (command.Saved (before + 1) out) (drop_here made (p + 1 + 1) (command.Saved (before + 1) out) rest behind_c) in
        let place : p + 1 - 1 ≡ p = omega arith in
        let first : nat_le 1 (p + 1) ≡ true = grind (arith, nat_tests) in
        rw (first, table_form before less, place, label, saved, last_is, same_one (before + 1), same_one (FIRST_LABEL + before), same_one out) refl

    record Marked (before p : ℕ) (cs : List Command) : Type 0 where
      marked : are_marked (length f.vars) forms (before + 1) (places_from p test (map form_of (behind before cs))) ≡ true
      number : length (places_from p test (map form_of (behind before cs))) ≡ tally (has_number reaching) cs

    own_marked : (cs : List Command) (before p : ℕ) → drop p made ≡ behind before cs → before + tally (has_number reaching) cs ≡ count → Marked before p cs
    own_marked [] before p at numbers = record { marked = refl; number = refl }
    own_marked (c ∷ cs) before p at numbers = own_by (has_number reaching c) refl (λ before p at numbers. own_marked cs before p at numbers)
      where
        own_by : (b : Bool) → has_number reaching c ≡ b → ((before p : ℕ) → drop p made ≡ behind before cs → before + tally (has_number reaching) cs ≡ count → Marked before p cs) → Marked before p (c ∷ cs)
        own_by true is more =
            let label : Command = command.Label (FIRST_LABEL + before) in
            let mark : Command = command.Saved (before + 1) out in
            let shape : behind before (c ∷ cs) ≡ label ∷ c ∷ mark ∷ behind (before + 1) cs = rw is refl in
            let here : drop p made ≡ label ∷ c ∷ mark ∷ behind (before + 1) cs = at ∙ shape in
            let next = drop_next made (p + 1 + 1) mark (behind (before + 1) cs) (drop_next made (p + 1) c (mark ∷ behind (before + 1) cs) (drop_next made p label (c ∷ mark ∷ behind (before + 1) cs) here)) in
            let counted : before + 1 + tally (has_number reaching) cs ≡ count = (let one : tally (has_number reaching) (c ∷ cs) ≡ 1 + tally (has_number reaching) cs = rw is refl in omega (arith, numbers, one)) in
            let rest = more (before + 1) (p + 1 + 1 + 1) next counted in
            let places : places_from p test (map form_of (behind before (c ∷ cs))) ≡ (p + 1) ∷ places_from (p + 1 + 1 + 1) test (map form_of (behind (before + 1) cs)) =
            ap (λ l. places_from p test (map form_of l)) shape ∙ (rw (test_alike (form_of c), is) refl) in
            record {
              marked = rw (places, one_marked before p c (behind (before + 1) cs) (omega (arith, counted)) here) rest.marked;
              number = rw (places, is) (ap (λ k. suc k) rest.number ∙ (omega arith));
            }
        own_by false is more =
            let shape : behind before (c ∷ cs) ≡ c ∷ behind before cs = rw is refl in
            let here : drop p made ≡ c ∷ behind before cs = at ∙ shape in
            let counted : before + tally (has_number reaching) cs ≡ count = (let none : tally (has_number reaching) (c ∷ cs) ≡ tally (has_number reaching) cs = rw is refl in omega (arith, numbers, none)) in
            let rest = more before (p + 1) (drop_next made p c (behind before cs) here) counted in
            let places : places_from p test (map form_of (behind before (c ∷ cs))) ≡ places_from (p + 1) test (map form_of (behind before cs)) =
            ap (λ l. places_from p test (map form_of l)) shape ∙ (rw (test_alike (form_of c), is) refl) in
            record { marked = rw places rest.marked; number = rw (places, is) rest.number }

    tables_places : (n before p : ℕ) (rest : List Command) → places_from p test (map form_of (tables before n ++ rest)) ≡ places_from (p + n) test (map form_of rest)
    tables_places zero before p rest = let none : p + 0 ≡ p = omega arith in rw none refl
    tables_places (suc n) before p rest = let same : p + suc n ≡ p + 1 + n = omega arith in rw same (tables_places n (before + 1) (p + 1) rest)

    tables_length : (before n : ℕ) → length (tables before n) ≡ n
    tables_length before zero = refl
    tables_length before (suc n) = ap (λ k. suc k) (tables_length (before + 1) n)

    -- commands for saving and rebuilding

    abbrev modes : List Command → ℕ
    modes cs = tally (λ c. is_mode (form_of c)) cs

    tally_map : (cs : List Command) → tally is_mode (map form_of cs) ≡ modes cs
    tally_map [] = refl
    tally_map (c ∷ cs) = by_mode (is_mode (form_of c)) (tally_map cs)
      where
        by_mode : (b : Bool) → tally is_mode (map form_of cs) ≡ modes cs → (if b then 1 + tally is_mode (map form_of cs) else tally is_mode (map form_of cs)) ≡ (if b then 1 + modes cs else modes cs)
        by_mode true h = rw h refl
        by_mode false h = h

    modes_append : (xs ys : List Command) → modes (xs ++ ys) ≡ modes xs + modes ys
    modes_append [] ys = omega arith
    modes_append (x ∷ xs) ys = let rest = modes_append xs ys in by_mode (is_mode (form_of x)) (modes_append xs ys)
      where
        by_mode : (b : Bool) → modes (xs ++ ys) ≡ modes xs + modes ys → (if b then 1 + modes (xs ++ ys) else modes (xs ++ ys)) ≡ (if b then 1 + modes xs else modes xs) + modes ys
        by_mode true h = omega (arith, h)
        by_mode false h = h

    modes_tables : (before n : ℕ) → modes (tables before n) ≡ n
    modes_tables before zero = refl
    modes_tables before (suc n) = let rest = modes_tables (before + 1) n in omega (arith, rest)

    modes_marks : (cs : List Command) (before : ℕ) → modes (all_with_marks reaching out before cs) ≡ modes cs + tally (has_number reaching) cs
    modes_marks [] before = omega arith
    modes_marks (c ∷ cs) before = by_number (has_number reaching c) refl (is_mode (form_of c)) refl (λ before. modes_marks cs before)
      where
        by_number : (b : Bool) → has_number reaching c ≡ b → (m : Bool) → is_mode (form_of c) ≡ m → ((before : ℕ) → modes (all_with_marks reaching out before cs) ≡ modes cs + tally (has_number reaching) cs)
            → modes (all_with_marks reaching out before (c ∷ cs)) ≡ modes (c ∷ cs) + tally (has_number reaching) (c ∷ cs)
        by_number true is true mode more = let rest = more (before + 1) in rw (is, mode) (omega (arith, rest))
        by_number true is false mode more = let rest = more (before + 1) in rw (is, mode) (omega (arith, rest))
        by_number false is true mode more = let rest = more before in rw (is, mode) (omega (arith, rest))
        by_number false is false mode more = let rest = more before in rw (is, mode) (omega (arith, rest))

    plain_modes : is_plain f ≡ true → modes f.commands ≡ 0
    plain_modes plain =
        let none : count_by is_mode (map form_of f.commands) ≡ 0 = zero_of (count_by is_mode (map form_of f.commands)) plain in
        sym (tally_map f.commands) ∙ tally_is is_mode (map form_of f.commands) ∙ none
      where
        zero_of : (n : ℕ) → n == 0 ≡ true → n ≡ 0
        zero_of n h = grind (arith, nat_tests, h)

    all_modes : is_plain f ≡ true → count_by is_mode forms ≡ 2 * count + 2
    all_modes plain =
        let own = plain_modes plain in
        let numbers = tally_is (has_number reaching) f.commands in
        let marks = modes_marks f.commands 0 in
        let split = modes_append (tables 0 count) (all_with_marks reaching out 0 f.commands ++ back reaching f) in
        let split2 = modes_append (all_with_marks reaching out 0 f.commands) (back reaching f) in
        let rows = modes_tables 0 count in
        let whole : modes made ≡ 2 * count + 2 = omega (arith, own, numbers, marks, split, split2, rows) in
        sym (tally_is is_mode forms) ∙ tally_map made ∙ whole

    ends_by : (n : ℕ) → count ≡ suc n → is_plain f ≡ true → has_ends (length f.vars) forms (suc n) ≡ true
    ends_by n is plain =
        let modes_are : count_by is_mode forms ≡ 2 * suc n + 2 = all_modes plain ∙ ap (λ k. 2 * k + 2) is in
        rw (push_is, same_all (every_variable reaching f), modes_are, same_one (2 * suc n + 2)) refl

    some_numbers : (k : ℕ) → slice_get flat.functions k ≡ Some f → reaching k ≡ true → (n : ℕ) × (count ≡ suc n)
    some_numbers k at reached =
        let own : commands_of (slice_get flat.functions k) ≡ f.commands = rw at refl in
        let leads : list_any (has_number reaching) f.commands ≡ true = subst (λ (cs : List Command). list_any (has_number reaching) cs ≡ true) own (reach_leads k reached) in
        let some = some_tally f.commands leads in
        (some.0, sym (tally_is (has_number reaching) f.commands) ∙ some.1)
      where
        some_tally : (cs : List Command) → list_any (has_number reaching) cs ≡ true → (n : ℕ) × (tally (has_number reaching) cs ≡ suc n)
        some_tally [] h = absurd (cc)
        some_tally (c ∷ cs) h = by_first (has_number reaching c) refl (λ g. some_tally cs g)
          where
            by_first : (b : Bool) → has_number reaching c ≡ b → (list_any (has_number reaching) cs ≡ true → (n : ℕ) × (tally (has_number reaching) cs ≡ suc n)) → (n : ℕ) × (tally (has_number reaching) (c ∷ cs) ≡ suc n)
            by_first true is more = (tally (has_number reaching) cs, rw is (omega arith))
            by_first false is more = let rest = more (subst (λ b. b || list_any (has_number reaching) cs ≡ true) is h) in let shorter : tally (has_number reaching) (c ∷ cs) ≡ tally (has_number reaching) cs = rw is refl in (rest.0, shorter ∙ rest.1)

    pub saving_marked : (k : ℕ) → slice_get flat.functions k ≡ Some f → reaching k ≡ true → is_plain f ≡ true → is_rewritten (rewritten flat) (with_commands f made) ≡ true
    saving_marked k at reached plain =
        let some = some_numbers k at reached in
        let numbers : 0 + tally (has_number reaching) f.commands ≡ count = (let same = tally_is (has_number reaching) f.commands in omega (arith, same)) in
        let long = tables_length 0 count in
        let place : drop (1 + count) made ≡ behind 0 f.commands =
        (let front_long : length (front reaching f) ≡ 1 + count = omega (arith, long) in subst (λ k. drop k made ≡ behind 0 f.commands) front_long (drop_append (front reaching f) (behind 0 f.commands))) in
        let own = own_marked f.commands 0 (1 + count) place numbers in
        let places : places_from 0 test forms ≡ places_from (1 + count) test (map form_of (behind 0 f.commands)) =
        (let one : 0 + 1 ≡ 1 = omega arith in tables_places count 0 (0 + 1) (behind 0 f.commands) ∙ ap (λ k. places_from (k + count) test (map form_of (behind 0 f.commands))) one) in
        let number : length (places_from (1 + count) test (map form_of (behind 0 f.commands))) ≡ suc some.0 = own.number ∙ tally_is (has_number reaching) f.commands ∙ some.1 in
        let first : are_marked (length f.vars) forms 1 (places_from (1 + count) test (map form_of (behind 0 f.commands))) ≡ true = own.marked in
        ap (λ ps. is_marked_at (length f.vars) forms ps) places
        ∙ ap (λ b. b && has_ends (length f.vars) forms (length (places_from (1 + count) test (map form_of (behind 0 f.commands))))) first
        ∙ ap (λ n. has_ends (length f.vars) forms n) number
        ∙ ends_by some.0 some.1 plain
