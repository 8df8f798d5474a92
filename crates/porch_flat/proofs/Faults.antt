-- What is found by going through the lines is the first rule that is broken.
use Rattle.std.proofs.Common.{◌≡◌, ◌<◌, ◌≤◌, ◌+◌, ◌-◌, ◌⊎◌, inl, inr, ℕ, zero, suc, nat_lt, Bool, true, false, if◌then◌else◌, List, [], ◌∷◌, Option, Some, None, arith, refl, ap, sym, subst, ◌∙◌}
use Rattle.std.specs.Prelude.{slice_get, Result, Ok, Err, OnOk, IfErr}
use Rattle.std.proofs.lemmas.Option.{slice_get_within, same_Some}
use Rattle.std.proofs.lemmas.Bool.{cases_lt}
use Rattle.std.proofs.lemmas.Bool.Decides.{nat_tests}
use Rattle.porch_flat.specs.declared.whole.FlatRule.{FlatRule}
use Rattle.porch_flat.specs.declared.whole.FlatRule.TheVariants as rule
use Rattle.porch_flat.specs.declared.whole.Flat.{Flat}
use Rattle.porch_flat.specs.declared.whole.Sort.{Sort}
use Rattle.porch_flat.specs.declared.whole.valid.ValidFault.{ValidFault}
use Rattle.porch_flat.specs.declared.whole.valid.ValidFault.TheVariants.{NotValid, NoMemory}
use Rattle.porch_flat.specs.whole.Lines.{Line, lines_of, line_at, line_behind}
use Rattle.porch_flat.specs.whole.Rules.{keeps, has_main, Breaks, in_line, without_main, IsValid, IsFirstBroken, IsRefused, rule_rank}
use Rattle.porch_flat.specs.whole.Worked.{rules}
use Rattle.porch_flat.specs.whole.Search.{first_rule, found_at, first_fault, main_fault}
use Rattle.porch_flat.specs.inside.Walks.{Finds, IsFault, first_of}
use Rattle.porch_flat.proofs.Walked.{found_behind, found_before}

-- of the rules

-- the first rule that doesn't pass a test
abbrev first_failing : (FlatRule → Bool) → Option FlatRule
first_failing k =
    if k rule.Number then
    (if k rule.Kind then
    (if k rule.Constant then
    (if k rule.Jump then
    (if k rule.Arity then
    (if k rule.Modes then None else Some rule.Modes)
    else Some rule.Arity)
    else Some rule.Jump)
    else Some rule.Constant)
    else Some rule.Kind)
    else Some rule.Number

if_none : {X : Type 0} (b : Bool) (x : Option X) (r : X) → (if b then x else Some r) ≡ None → (b ≡ true) × (x ≡ None)
if_none true x r h = (refl, h)
if_none false x r h = cc

if_some : {X : Type 0} (b : Bool) (x : Option X) (q r : X) → (if b then x else Some q) ≡ Some r → ((b ≡ false) × (q ≡ r)) ⊎ ((b ≡ true) × (x ≡ Some r))
if_some true x q r h = inr (refl, h)
if_some false x q r h = inl (refl, same_Some q r h)

-- the rule is broken, and so is none of lower rank
record IsFirst (k : FlatRule → Bool) (r : FlatRule) : Type 0 where
  fails : k r ≡ false
  least : (other : FlatRule) → k other ≡ false → rule_rank r ≤ rule_rank other

no_rule : (k : FlatRule → Bool) → k rule.Main ≡ true → first_failing k ≡ None → (r : FlatRule) → k r ≡ true
no_rule k main h =
    let a = if_none (k rule.Number) _ _ h in
    let b = if_none (k rule.Kind) _ _ a.1 in
    let c = if_none (k rule.Constant) _ _ b.1 in
    let d = if_none (k rule.Jump) _ _ c.1 in
    let e = if_none (k rule.Arity) _ _ d.1 in
    let f = if_none (k rule.Modes) _ _ e.1 in
    λ r. elim r as (λ r. k r ≡ true) [ rule.Number ↦ a.0 | rule.Kind ↦ b.0 | rule.Constant ↦ c.0 | rule.Jump ↦ d.0 | rule.Arity ↦ e.0 | rule.Modes ↦ f.0 | rule.Main ↦ main ]

true_or_false : {b : Bool} → b ≡ true → b ≡ false → ⊥
true_or_false h e = let clash : true ≡ false = sym h ∙ e in cc

none_or_some : {X : Type 0} {r : X} → None ≡ Some r → ⊥
none_or_some h = cc

first_number : (k : FlatRule → Bool) → k rule.Number ≡ false → IsFirst k rule.Number
first_number k f = record { fails = f; least = λ other. elim other as (λ other. k other ≡ false → 0 ≤ rule_rank other) [ rule.Number ↦ λ h. omega arith | rule.Kind ↦ λ h. omega arith | rule.Constant ↦ λ h. omega arith | rule.Jump ↦ λ h. omega arith | rule.Arity ↦ λ h. omega arith | rule.Modes ↦ λ h. omega arith | rule.Main ↦ λ h. omega arith ] }

first_kind : (k : FlatRule → Bool) → k rule.Number ≡ true → k rule.Kind ≡ false → IsFirst k rule.Kind
first_kind k number f = record { fails = f; least = λ other. elim other as (λ other. k other ≡ false → 1 ≤ rule_rank other) [ rule.Number ↦ λ h. absurd (true_or_false (number) h) | rule.Kind ↦ λ h. omega arith | rule.Constant ↦ λ h. omega arith | rule.Jump ↦ λ h. omega arith | rule.Arity ↦ λ h. omega arith | rule.Modes ↦ λ h. omega arith | rule.Main ↦ λ h. omega arith ] }

first_constant : (k : FlatRule → Bool) → k rule.Number ≡ true → k rule.Kind ≡ true → k rule.Constant ≡ false → IsFirst k rule.Constant
first_constant k number kind f = record { fails = f; least = λ other. elim other as (λ other. k other ≡ false → 2 ≤ rule_rank other) [ rule.Number ↦ λ h. absurd (true_or_false (number) h) | rule.Kind ↦ λ h. absurd (true_or_false (kind) h) | rule.Constant ↦ λ h. omega arith | rule.Jump ↦ λ h. omega arith | rule.Arity ↦ λ h. omega arith | rule.Modes ↦ λ h. omega arith | rule.Main ↦ λ h. omega arith ] }

first_jump : (k : FlatRule → Bool) → k rule.Number ≡ true → k rule.Kind ≡ true → k rule.Constant ≡ true → k rule.Jump ≡ false → IsFirst k rule.Jump
first_jump k number kind constant f = record { fails = f; least = λ other. elim other as (λ other. k other ≡ false → 3 ≤ rule_rank other) [ rule.Number ↦ λ h. absurd (true_or_false (number) h) | rule.Kind ↦ λ h. absurd (true_or_false (kind) h) | rule.Constant ↦ λ h. absurd (true_or_false (constant) h) | rule.Jump ↦ λ h. omega arith | rule.Arity ↦ λ h. omega arith | rule.Modes ↦ λ h. omega arith | rule.Main ↦ λ h. omega arith ] }

first_arity : (k : FlatRule → Bool) → k rule.Number ≡ true → k rule.Kind ≡ true → k rule.Constant ≡ true → k rule.Jump ≡ true → k rule.Arity ≡ false → IsFirst k rule.Arity
first_arity k number kind constant jump f = record { fails = f; least = λ other. elim other as (λ other. k other ≡ false → 4 ≤ rule_rank other) [ rule.Number ↦ λ h. absurd (true_or_false (number) h) | rule.Kind ↦ λ h. absurd (true_or_false (kind) h) | rule.Constant ↦ λ h. absurd (true_or_false (constant) h) | rule.Jump ↦ λ h. absurd (true_or_false (jump) h) | rule.Arity ↦ λ h. omega arith | rule.Modes ↦ λ h. omega arith | rule.Main ↦ λ h. omega arith ] }

first_modes : (k : FlatRule → Bool) → k rule.Number ≡ true → k rule.Kind ≡ true → k rule.Constant ≡ true → k rule.Jump ≡ true → k rule.Arity ≡ true → k rule.Modes ≡ false → IsFirst k rule.Modes
first_modes k number kind constant jump arity f = record { fails = f; least = λ other. elim other as (λ other. k other ≡ false → 5 ≤ rule_rank other) [ rule.Number ↦ λ h. absurd (true_or_false (number) h) | rule.Kind ↦ λ h. absurd (true_or_false (kind) h) | rule.Constant ↦ λ h. absurd (true_or_false (constant) h) | rule.Jump ↦ λ h. absurd (true_or_false (jump) h) | rule.Arity ↦ λ h. absurd (true_or_false (arity) h) | rule.Modes ↦ λ h. omega arith | rule.Main ↦ λ h. omega arith ] }

first_of_rules : (k : FlatRule → Bool) (r : FlatRule) → first_failing k ≡ Some r → IsFirst k r
first_of_rules k r h =
    elim (if_some (k rule.Number) _ _ r h) [
      | inl found ↦ subst (IsFirst k) found.1 (first_number k found.0)
      | inr more_number ↦
          elim (if_some (k rule.Kind) _ _ r more_number.1) [
            | inl found ↦ subst (IsFirst k) found.1 (first_kind k more_number.0 found.0)
            | inr more_kind ↦
                elim (if_some (k rule.Constant) _ _ r more_kind.1) [
                  | inl found ↦ subst (IsFirst k) found.1 (first_constant k more_number.0 more_kind.0 found.0)
                  | inr more_constant ↦
                      elim (if_some (k rule.Jump) _ _ r more_constant.1) [
                        | inl found ↦ subst (IsFirst k) found.1 (first_jump k more_number.0 more_kind.0 more_constant.0 found.0)
                        | inr more_jump ↦
                            elim (if_some (k rule.Arity) _ _ r more_jump.1) [
                              | inl found ↦ subst (IsFirst k) found.1 (first_arity k more_number.0 more_kind.0 more_constant.0 more_jump.0 found.0)
                              | inr more_arity ↦
                                  elim (if_some (k rule.Modes) _ _ r more_arity.1) [
                                    | inl found ↦ subst (IsFirst k) found.1 (first_modes k more_number.0 more_kind.0 more_constant.0 more_jump.0 more_arity.0 found.0)
                                    | inr more_modes ↦ absurd (none_or_some more_modes.1)
                                  ]
                            ]
                      ]
                ]
          ]
    ]

-- of the lines

none_at : (n : ℕ) (here : Option FlatRule) (behind : Option (ℕ × FlatRule)) → found_at n here behind ≡ None → (here ≡ None) × (behind ≡ None)
none_at n (Some r) behind h = cc
none_at n None behind h = (refl, h)

no_line : (test : Line → Option FlatRule) (n : ℕ) (lines : List Line) → first_of test n lines ≡ None → (i : ℕ) (line : Line) → slice_get lines i ≡ Some line → test line ≡ None
no_line test n [] h i line at = cc
no_line test n (x ∷ lines) h zero line at = ap test (sym (same_Some x line at)) ∙ (none_at n (test x) _ h).0
no_line test n (x ∷ lines) h (suc i) line at = no_line test (n + 1) lines (none_at n (test x) _ h).1 i line at

-- the first of these lines, the first of them with number n, that doesn't pass a test
record IsFirstLine (test : Line → Option FlatRule) (n : ℕ) (lines : List Line) (number : ℕ) (r : FlatRule) : Type 0 where
  place : ℕ
  line : Line
  here : number ≡ n + place
  stands : slice_get lines place ≡ Some line
  breaks : test line ≡ Some r
  before : (i : ℕ) (other : Line) → i < place → slice_get lines i ≡ Some other → test other ≡ None

some_at : (n : ℕ) (here : Option FlatRule) (behind : Option (ℕ × FlatRule)) (number : ℕ) (r : FlatRule) → found_at n here behind ≡ Some (number, r)
    → ((here ≡ Some r) × (number ≡ n)) ⊎ ((here ≡ None) × (behind ≡ Some (number, r)))
some_at n (Some q) behind number r h =
    let same = same_Some _ _ h in
    inl (ap (λ x. Some x) (ap (λ x. x.1) same), sym (ap (λ x. x.0) same))
some_at n None behind number r h = inr (refl, h)

later_line : (test : Line → Option FlatRule) (n : ℕ) (x : Line) (lines : List Line) (number : ℕ) (r : FlatRule) → test x ≡ None → IsFirstLine test (n + 1) lines number r → IsFirstLine test n (x ∷ lines) number r
later_line test n x lines number r none is = record {
  place = suc is.place;
  line = is.line;
  here = omega (arith, is.here);
  stands = is.stands;
  breaks = is.breaks;
  before = before;
}
  where
    before : (i : ℕ) (other : Line) → i < suc is.place → slice_get (x ∷ lines) i ≡ Some other → test other ≡ None
    before zero other h at = ap test (sym (same_Some x other at)) ∙ none
    before (suc i) other h at = is.before i other (omega (arith, h)) at

some_line : (test : Line → Option FlatRule) (n : ℕ) (lines : List Line) (number : ℕ) (r : FlatRule) → first_of test n lines ≡ Some (number, r) → IsFirstLine test n lines number r
some_line test n [] number r h = cc
some_line test n (x ∷ lines) number r h =
    elim (some_at n (test x) _ number r h) [
      | inl here ↦ record { place = 0; line = x; here = omega (arith, here.1); stands = refl; breaks = here.0; before = λ i other below. absurd (omega (arith, below)) }
      | inr behind ↦ later_line test n x lines number r behind.0 (some_line test (n + 1) lines number r behind.1)
    ]

-- of a program

lines_keep : (s : Sort) (flat : Flat) → first_of (first_rule s flat) 3 (lines_of flat) ≡ None
    → (i : ℕ) (line : Line) (r : FlatRule) → slice_get (lines_of flat) i ≡ Some line → keeps s flat r line ≡ true
lines_keep s flat h i line r at = no_rule (λ r. keeps s flat r line) refl (no_line (first_rule s flat) 3 (lines_of flat) h i line at) r

-- the place among the lines of what stands in a line
place_of_line : (flat : Flat) (n : ℕ) (line : Line) → line_at flat n ≡ Some line → (3 ≤ n) × (slice_get (lines_of flat) (n - 3) ≡ Some line)
place_of_line flat n line h = in_place (nat_lt n 3) refl h
  where
    in_place : (early : Bool) → nat_lt n 3 ≡ early → (if early then None else slice_get (lines_of flat) (n - 3)) ≡ Some line
        → (3 ≤ n) × (slice_get (lines_of flat) (n - 3) ≡ Some line)
    in_place true e h = absurd (none_or_some h)
    in_place false e h = (grind (arith, nat_tests, e), h)

line_of_place : (flat : Flat) (i : ℕ) (line : Line) → slice_get (lines_of flat) i ≡ Some line → line_at flat (3 + i) ≡ Some line
line_of_place flat i line h =
    let not_early : nat_lt (3 + i) 3 ≡ false = grind (arith, nat_tests) in
    let back : 3 + i - 3 ≡ i = omega arith in
    rw (not_early, back) h

abbrev test_of : Sort → Flat → Line → Option FlatRule
test_of s flat = first_rule s flat

-- what is found is in a line, or behind them all
found_parts : (s : Sort) (flat : Flat) (x : Option (ℕ × FlatRule)) → first_fault s flat ≡ x
    → ((first_of (test_of s flat) 3 (lines_of flat) ≡ None) × (main_fault flat ≡ x))
    ⊎ ((p : ℕ × FlatRule) × (first_of (test_of s flat) 3 (lines_of flat) ≡ Some p) × (Some p ≡ x))
found_parts s flat x h = of_found (first_of (test_of s flat) 3 (lines_of flat)) refl
  where
    of_found : (found : Option (ℕ × FlatRule)) → first_of (test_of s flat) 3 (lines_of flat) ≡ found
        → ((first_of (test_of s flat) 3 (lines_of flat) ≡ None) × (main_fault flat ≡ x))
        ⊎ ((p : ℕ × FlatRule) × (first_of (test_of s flat) 3 (lines_of flat) ≡ Some p) × (Some p ≡ x))
    of_found None e = inl (e, sym (found_behind (test_of s flat) 3 (lines_of flat) (main_fault flat) e) ∙ h)
    of_found (Some p) e = inr (p, e, sym (found_before (test_of s flat) 3 (lines_of flat) (main_fault flat) p e) ∙ h)

pub valid_when_none : (s : Sort) (flat : Flat) → first_fault s flat ≡ None → IsValid s flat
valid_when_none s flat h =
    elim (found_parts s flat None h) [
      | inl parts ↦ record {
        lines = λ n line r at. lines_keep s flat parts.0 (n - 3) line r (place_of_line flat n line at).1;
        main = (if_none (has_main flat) None (line_behind flat, rule.Main) parts.1).0;
      }
      | inr (p, found, is) ↦ absurd (none_or_some (sym is))
    ]

-- no line before the first that fails a test breaks a rule, and in it none of lower rank
not_before : (s : Sort) (flat : Flat) (n : ℕ) (r : FlatRule) (is : IsFirstLine (test_of s flat) 3 (lines_of flat) n r) (m : ℕ) (line : Line) (other : FlatRule)
    → line_at flat m ≡ Some line → keeps s flat other line ≡ false → (n < m) ⊎ ((n ≡ m) × (rule_rank r ≤ rule_rank other))
not_before s flat n r is m line other at fails =
    let place = place_of_line flat m line at in
    elim (cases_lt (m - 3) is.place) [
      | inl before ↦
          absurd (true_or_false (no_rule (λ r. keeps s flat r line) refl (is.before (m - 3) line before place.1) other) fails)
      | inr behind ↦ elim (cases_lt is.place (m - 3)) [
        | inl later ↦ inl (omega (arith, is.here, later, place.0))
        | inr same ↦
            let here : m - 3 ≡ is.place = omega (arith, behind, same) in
            let one : is.line ≡ line = same_Some is.line line (sym is.stands ∙ (ap (λ i. slice_get (lines_of flat) i) (sym here) ∙ place.1)) in
            let rank = (first_of_rules (λ r. keeps s flat r is.line) r is.breaks).least other (subst (λ l. keeps s flat other l ≡ false) (sym one) fails) in
            inr (omega (arith, is.here, here, place.0), rank)
      ]
    ]

broken_line : (s : Sort) (flat : Flat) (n : ℕ) (r : FlatRule) → first_of (test_of s flat) 3 (lines_of flat) ≡ Some (n, r) → IsFirstBroken s flat n r
broken_line s flat n r h =
    let is = some_line (test_of s flat) 3 (lines_of flat) n r h in
    let within = slice_get_within (lines_of flat) is.place is.line is.stands in
    record {
      broken =
          in_line is.line (subst (λ k. line_at flat k ≡ Some is.line) (sym is.here) (line_of_place flat is.place is.line is.stands))
          (first_of_rules (λ r. keeps s flat r is.line) r is.breaks).fails;
      first = λ m other breaks. elim breaks [
        | in_line line at fails ↦ not_before s flat n r is m line other at fails
        | without_main main behind none ↦ inl (omega (arith, is.here, within, behind))
      ];
    }

-- a program whose lines break no rule, and that has no main
no_main : (s : Sort) (flat : Flat) → first_of (test_of s flat) 3 (lines_of flat) ≡ None → has_main flat ≡ false → IsFirstBroken s flat (line_behind flat) rule.Main
no_main s flat h none = record {
  broken = without_main refl refl none;
  first = λ m other breaks. elim breaks [
    | in_line line at fails ↦
        absurd (true_or_false (lines_keep s flat h (m - 3) line other (place_of_line flat m line at).1) fails)
    | without_main main behind lacks ↦ inr (sym behind, subst (λ r. 6 ≤ rule_rank r) (sym main) (omega arith))
  ];
}

pub broken_when_some : (s : Sort) (flat : Flat) (n : ℕ) (r : FlatRule) → first_fault s flat ≡ Some (n, r) → IsFirstBroken s flat n r
broken_when_some s flat n r h =
    elim (found_parts s flat (Some (n, r)) h) [
      | inl parts ↦ elim (if_some (has_main flat) None (line_behind flat, rule.Main) (n, r) parts.1) [
        | inl found ↦ subst (λ p. IsFirstBroken s flat p.0 p.1) found.1 (no_main s flat parts.0 found.0)
        | inr has ↦ absurd (none_or_some has.1)
      ]
      | inr (p, found, is) ↦ broken_line s flat n r (found ∙ is)
    ]

pub refused_by : (s : Sort) (flat : Flat) (fault : ValidFault) → IsFault (first_fault s flat) fault → IsRefused s flat fault
refused_by s flat NoMemory h = tt
refused_by s flat (NotValid line r) h = broken_when_some s flat line r h

pub valid_result : {X : Type 0} (s : Sort) (flat : Flat) (r : Result X ValidFault) → Finds (first_fault s flat) r → OnOk r (IsValid s flat)
valid_result s flat (Ok x) h = valid_when_none s flat h
valid_result s flat (Err fault) h = tt

-- one answer

broken_or_valid : (s : Sort) (flat : Flat) (n : ℕ) (r : FlatRule) → IsValid s flat → Breaks s flat n r → ⊥
broken_or_valid s flat n r valid breaks =
    elim breaks [
      | in_line line at fails ↦ true_or_false (valid.lines n line r at) fails
      | without_main main behind none ↦ true_or_false valid.main none
    ]

pub none_of_valid : (s : Sort) (flat : Flat) (n : ℕ) (r : FlatRule) → IsValid s flat → IsFirstBroken s flat n r → ⊥
none_of_valid s flat n r valid first = broken_or_valid s flat n r valid first.broken

not_after : (n m a b : ℕ) → (n < m) ⊎ ((n ≡ m) × (a ≤ b)) → n ≤ m
not_after n m a b h = elim h [ inl before ↦ omega (arith, before) | inr same ↦ omega (arith, same.0) ]

pub one_line : (s : Sort) (flat : Flat) (n m : ℕ) (r q : FlatRule) → IsFirstBroken s flat n r → IsFirstBroken s flat m q → n ≡ m
one_line s flat n m r q a b =
    let there = not_after n m (rule_rank r) (rule_rank q) (a.first m q b.broken) in
    let back = not_after m n (rule_rank q) (rule_rank r) (b.first n r a.broken) in
    omega (arith, there, back)

rank_within : (n m a b : ℕ) → n ≡ m → (n < m) ⊎ ((n ≡ m) × (a ≤ b)) → a ≤ b
rank_within n m a b e h = elim h [ inl before ↦ absurd (omega (arith, e, before)) | inr same ↦ same.1 ]

rule_of_rank : (r : FlatRule) → slice_get rules (rule_rank r) ≡ Some r
rule_of_rank rule.Number = refl
rule_of_rank rule.Kind = refl
rule_of_rank rule.Constant = refl
rule_of_rank rule.Jump = refl
rule_of_rank rule.Arity = refl
rule_of_rank rule.Modes = refl
rule_of_rank rule.Main = refl

pub one_rule : (s : Sort) (flat : Flat) (n m : ℕ) (r q : FlatRule) → IsFirstBroken s flat n r → IsFirstBroken s flat m q → r ≡ q
one_rule s flat n m r q a b =
    let e : n ≡ m = one_line s flat n m r q a b in
    let there = rank_within n m (rule_rank r) (rule_rank q) e (a.first m q b.broken) in
    let back = rank_within m n (rule_rank q) (rule_rank r) (sym e) (b.first n r a.broken) in
    let same : rule_rank r ≡ rule_rank q = omega (arith, there, back) in
    same_Some r q (sym (rule_of_rank r) ∙ (ap (λ k. slice_get rules k) same ∙ rule_of_rank q))

pub taken_result : {X : Type 0} (s : Sort) (flat : Flat) (r : Result X ValidFault) → Finds (first_fault s flat) r → IsValid s flat → IfErr r (λ fault. fault ≡ NoMemory)
taken_result s flat (Ok x) h valid = tt
taken_result s flat (Err NoMemory) h valid = refl
taken_result s flat (Err (NotValid line r)) h valid = absurd (none_of_valid s flat line r valid (broken_when_some s flat line r h))
