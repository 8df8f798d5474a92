-- A loop's commands as a block of a function.
use Rattle.std.proofs.Common.{◌≡◌, ◌≢◌, ℕ, zero, suc, ◌+◌, ◌*◌, ◌^◌, ◌<◌, ◌==◌, List, [], ◌∷◌, ◌++◌, length, Some, true, false, refl, ap, subst, ◌∙◌, arith, inl, inr, length-append}
use Rattle.std.specs.Prelude.{slice_get}
use Rattle.std.proofs.lemmas.Bool.Decides.{nat_tests}
use Rattle.porch_flat.specs.declared.flat.Operand.{Operand}
use Rattle.porch_flat.specs.declared.flat.Command.{Command}
use Rattle.porch_flat.specs.declared.flat.Command.TheVariants as command
use Rattle.porch_flat.specs.declared.flat.Function.{Function}
use Rattle.porch_flat.specs.Places.{is_label, place_of_label}
use Rattle.porch_flat.specs.Valid.{IsOperand, HasParts, GoesOnWell}
use Rattle.porch_lower.proofs.Marks.{Each, each_joined, each_at, each_of, IsStraight, IsGood, HasNot, IsWell, IsBlock, found, found_back, none_joined, none_cons, none_straight, either, well_front, well_back, AreApart, straight_well, place}

-- The commands before the body, where the labels are these, and those behind it.
abbrev pub head : ℕ → ℕ → List Command
head b t = command.Jump t ∷ command.Label b ∷ command.Turn ∷ []

abbrev pub tail : ℕ → ℕ → List Command → Operand → List Command
tail b t tests o = command.Label t ∷ (tests ++ command.If o b ∷ [])

other : (n m : ℕ) → n ≢ m → (n == m) ≡ false
other n m h = grind (arith, nat_tests, h)

same : (n : ℕ) → (n == n) ≡ true
same n = grind (arith, nat_tests)

head_has_not : (n b t : ℕ) → n ≢ b → HasNot n (head b t)
head_has_not n b t h = let e = other n b h in rw e refl

tail_has_not : (f : Function) (n b t : ℕ) (tests : List Command) (o : Operand) → n ≢ t → Each (IsGood f) tests → HasNot n (tail b t tests o)
tail_has_not f n b t tests o h good =
    none_cons n (command.Label t) (tests ++ command.If o b ∷ []) (other n t h)
    (none_joined n tests (command.If o b ∷ []) (none_straight n tests (each_of (IsGood f) IsStraight tests (λ c k. k.1) good)) refl)

head_place : (b t : ℕ) (rest : List Command) → place_of_label (head b t ++ rest) b ≡ Some 1
head_place b t rest = found (is_label b) (head b t ++ rest) 1 (let e = same b in rw e refl) (omega arith)

tail_place : (b t : ℕ) (tests : List Command) (o : Operand) → place_of_label (tail b t tests o) t ≡ Some 0
tail_place b t tests o = found (is_label t) (tail b t tests o) 0 (let e = same t in rw e refl) (omega arith)

-- a loop whose body stands at place p + 3 and has neither of its labels
test_place : (p : ℕ) (f : Function) (body tests : List Command) (o : Operand) → IsBlock f (p + 3) body
    → place_of_label (head (2 * p) (2 * p + 1) ++ (body ++ tail (2 * p) (2 * p + 1) tests o)) (2 * p + 1) ≡ Some (3 + length body)
test_place p f body tests o inner =
    let b = 2 * p in
    let t = 2 * p + 1 in
    found_back (is_label t) (head b t) (body ++ tail b t tests o) (length body) (3 + length body) (head_has_not t b t (λ e. omega (arith, e)))
    (found_back (is_label t) body (tail b t tests o) 0 (length body) (inner.low t (omega arith)) (tail_place b t tests o) (omega arith)) (omega arith)

loop_apart : (p : ℕ) (f : Function) (body tests : List Command) (o : Operand) → IsBlock f (p + 3) body → Each (IsGood f) tests
    → AreApart (head (2 * p) (2 * p + 1)) (body ++ tail (2 * p) (2 * p + 1) tests o)
loop_apart p f body tests o inner good n to at =
    let b = 2 * p in
    let t = 2 * p + 1 in
    let rest = body ++ tail b t tests o in
    let where' = place (is_label n) rest to at in
    head_has_not n b t (λ e. let none : HasNot n rest = none_joined n body (tail b t tests o) (inner.low n (omega (arith, e))) (tail_has_not f n b t tests o (λ q. omega (arith, e, q)) good) in omega (arith, none, where'.0, where'.1))

in_head : (p : ℕ) (f : Function) (body tests : List Command) (o : Operand) (k : ℕ) (c : Command) → IsBlock f (p + 3) body → slice_get (head (2 * p) (2 * p + 1)) k ≡ Some c
    → GoesOnWell (head (2 * p) (2 * p + 1) ++ (body ++ tail (2 * p) (2 * p + 1) tests o)) k c
in_head p f body tests o zero c inner h =
    let is : command.Jump (2 * p + 1) ≡ c = cc in
    subst (λ c. GoesOnWell (head (2 * p) (2 * p + 1) ++ (body ++ tail (2 * p) (2 * p + 1) tests o)) 0 c) is (3 + length body, test_place p f body tests o inner, inl (omega arith))
in_head p f body tests o (suc zero) c inner h =
    let is : command.Label (2 * p) ≡ c = cc in
    subst (λ c. GoesOnWell (head (2 * p) (2 * p + 1) ++ (body ++ tail (2 * p) (2 * p + 1) tests o)) 1 c) is (head_place (2 * p) (2 * p + 1) (body ++ tail (2 * p) (2 * p + 1) tests o))
in_head p f body tests o (suc (suc zero)) c inner h =
    let is : command.Turn ≡ c = cc in
    subst (λ c. GoesOnWell (head (2 * p) (2 * p + 1) ++ (body ++ tail (2 * p) (2 * p + 1) tests o)) 2 c) is tt
in_head p f body tests o (suc (suc (suc k))) c inner h = absurd (cc)

in_end : (p : ℕ) (f : Function) (body tests : List Command) (o : Operand) (at k : ℕ) (c : Command) → slice_get (command.If o (2 * p) ∷ []) k ≡ Some c
    → GoesOnWell (head (2 * p) (2 * p + 1) ++ (body ++ tail (2 * p) (2 * p + 1) tests o)) at c
in_end p f body tests o at zero c h =
    let is : command.If o (2 * p) ≡ c = cc in
    subst (λ c. GoesOnWell (head (2 * p) (2 * p + 1) ++ (body ++ tail (2 * p) (2 * p + 1) tests o)) at c) is (1, head_place (2 * p) (2 * p + 1) (body ++ tail (2 * p) (2 * p + 1) tests o), inr refl)
in_end p f body tests o at (suc k) c h = absurd (cc)

in_tail : (p : ℕ) (f : Function) (body tests : List Command) (o : Operand) (at k : ℕ) (c : Command) → IsBlock f (p + 3) body → Each (IsGood f) tests → at ≡ 3 + length body + k
    → slice_get (tail (2 * p) (2 * p + 1) tests o) k ≡ Some c
    → GoesOnWell (head (2 * p) (2 * p + 1) ++ (body ++ tail (2 * p) (2 * p + 1) tests o)) at c
in_tail p f body tests o at zero c inner good e h =
    let is : command.Label (2 * p + 1) ≡ c = cc in
    let here : 3 + length body ≡ at = omega (arith, e) in
    subst (λ c. GoesOnWell (head (2 * p) (2 * p + 1) ++ (body ++ tail (2 * p) (2 * p + 1) tests o)) at c) is (test_place p f body tests o inner ∙ ap (λ i. Some i) here)
in_tail p f body tests o at (suc k) c inner good e h =
    elim (either tests (command.If o (2 * p) ∷ []) k c h) [
      | inl a ↦ straight_well (head (2 * p) (2 * p + 1) ++ (body ++ tail (2 * p) (2 * p + 1) tests o)) at c (each_at (IsGood f) tests k c good a).1
      | inr z ↦ in_end p f body tests o at z.0 c z.2
    ]

loop_well : (p : ℕ) (f : Function) (body tests : List Command) (o : Operand) → IsBlock f (p + 3) body → Each (IsGood f) tests
    → IsWell (head (2 * p) (2 * p + 1) ++ (body ++ tail (2 * p) (2 * p + 1) tests o))
loop_well p f body tests o inner good = record {
  at = λ k c h.
      let b = 2 * p in
      let t = 2 * p + 1 in
      elim (either (head b t) (body ++ tail b t tests o) k c h) [
        | inl a ↦ in_head p f body tests o k c inner a
        | inr z ↦ elim (either body (tail b t tests o) z.0 c z.2) [
          | inl a ↦ well_back (head b t) (body ++ tail b t tests o) z.0 k c (loop_apart p f body tests o inner good) z.1 (well_front body (tail b t tests o) z.0 c (inner.well.at z.0 c a))
          | inr y ↦ in_tail p f body tests o k y.0 c inner good (omega (arith, z.1, y.1)) y.2
        ]
      ];
}

pub loop_block : (p : ℕ) (f : Function) (body tests : List Command) (o : Operand) → IsBlock f (p + 3) body → Each (IsGood f) tests → IsOperand f o → p < 2 ^ 30
    → IsBlock f p (head (2 * p) (2 * p + 1) ++ (body ++ tail (2 * p) (2 * p + 1) tests o))
loop_block p f body tests o inner good fits small =
    let b = 2 * p in
    let t = 2 * p + 1 in
    record {
      parts = (
        omega (arith, small),
        (
          omega (arith, small),
          (
            tt,
            each_joined (HasParts f) body (tail b t tests o) inner.parts
                (omega (arith, small), each_joined (HasParts f) tests (command.If o b ∷ []) (each_of (IsGood f) (HasParts f) tests (λ c k. k.0) good) ((fits, omega (arith, small)), tt)),
          ),
        ),
      );
      low = λ n h. none_joined n (head b t) (body ++ tail b t tests o) (head_has_not n b t (λ e. omega (arith, h, e))) (none_joined n body (tail b t tests o) (inner.low n (omega (arith, h))) (tail_has_not f n b t tests o (λ e. omega (arith, h, e)) good));
      high = λ n h. let long = simp length-append at h in none_joined n (head b t) (body ++ tail b t tests o) (head_has_not n b t (λ e. omega (arith, long, e))) (none_joined n body (tail b t tests o) (inner.high n (omega (arith, long))) (tail_has_not f n b t tests o (λ e. omega (arith, long, e)) good));
      well = loop_well p f body tests o inner good;
    }
