-- Operands of `&&` and `||` go together from either side.
use Rattle.std.proofs.Common.{◌≡◌, Bool, true, false, not, cond, ℤ, pos, sym, ◌∙◌, refl}
use Rattle.porch_typed.specs.Mirror.{Expression, Expressions, no_expressions, with_expression}
use Rattle.porch_check.specs.Constants.{Folded, no_constant, undefined, known, if_also, truth, folded, folded_all, folded_any}
use Rattle.porch_constants.specs.inside.Rows.{as_truth, behind_all, behind_any}

no_constant_behind : (f h : Folded) (d : ℤ → Bool) (z : ℤ) → if_also f no_constant d z h ≡ no_constant
no_constant_behind no_constant h d z = refl
no_constant_behind undefined h d z = refl
no_constant_behind (known x) h d z = refl

-- a value in front of undefined behaviour and of a value: which of the two decides

left_undefined : (b : Bool) (w z : ℤ) (d : ℤ → Bool) → if_also (cond b (known z) (known w)) undefined d z undefined ≡ cond b (cond (d z) (known z) undefined) (cond (d w) (known z) undefined)
left_undefined true w z d = refl
left_undefined false w z d = refl

right_undefined : (v : Bool) (x z : ℤ) (d : ℤ → Bool) → if_also (known x) (cond v (known z) undefined) d z (cond v (known z) undefined) ≡ cond v (cond (d x) (known z) (known z)) (cond (d x) (known z) undefined)
right_undefined true x z d = refl
right_undefined false x z d = refl

left_known : (b : Bool) (w z y : ℤ) (d : ℤ → Bool) → if_also (cond b (known z) (known w)) (known y) d z (known y) ≡ cond b (cond (d z) (known z) (known y)) (cond (d w) (known z) (known y))
left_known true w z y d = refl
left_known false w z y d = refl

right_known : (v : Bool) (x z y : ℤ) (d : ℤ → Bool) → if_also (known x) (cond v (known z) (known y)) d z (cond v (known z) (known y)) ≡ cond v (cond (d x) (known z) (known z)) (cond (d x) (known z) (known y))
right_known true x z y d = refl
right_known false x z y d = refl

decided : (b v c : Bool) (z : ℤ) (t : Folded) → c ≡ true → cond b (cond c (known z) t) (cond v (known z) t) ≡ cond v (cond b (known z) (known z)) (cond b (known z) t)
decided true true c z t e = rw e refl
decided true false c z t e = rw e refl
decided false true c z t e = refl
decided false false c z t e = refl

-- two operands with what is behind them, where a value that was decided decides
pub together : (f g h : Folded) (d : ℤ → Bool) (z : ℤ) → d z ≡ true → if_also (if_also f g d z g) h d z h ≡ if_also f (if_also g h d z h) d z (if_also g h d z h)
together no_constant g h d z e = refl
together undefined no_constant h d z e = refl
together undefined undefined no_constant d z e = refl
together undefined undefined undefined d z e = refl
together undefined undefined (known y) d z e = refl
together undefined (known x) no_constant d z e = refl
together undefined (known x) undefined d z e =
    elim (d x) as (λ b. undefined ≡ if_also undefined (cond b (known z) undefined) d z (cond b (known z) undefined)) [ true ↦ refl | false ↦ refl ]
together undefined (known x) (known y) d z e =
    elim (d x) as (λ b. undefined ≡ if_also undefined (cond b (known z) (known y)) d z (cond b (known z) (known y))) [ true ↦ refl | false ↦ refl ]
together (known x) no_constant h d z e = refl
together (known x) undefined no_constant d z e = no_constant_behind (cond (d x) (known z) undefined) no_constant d z
together (known x) undefined undefined d z e =
    elim (d x) as (λ b. if_also (cond b (known z) undefined) undefined d z undefined ≡ cond b (known z) undefined) [ true ↦ rw e refl | false ↦ refl ]
together (known x) undefined (known y) d z e =
    elim (d x) as (λ b. if_also (cond b (known z) undefined) (known y) d z (known y) ≡ cond b (known z) undefined) [ true ↦ rw e refl | false ↦ refl ]
together (known x) (known w) no_constant d z e = no_constant_behind (cond (d x) (known z) (known w)) no_constant d z
together (known x) (known w) undefined d z e =
    left_undefined (d x) w z d ∙ decided (d x) (d w) (d z) z undefined e ∙ sym (right_undefined (d w) x z d)
together (known x) (known w) (known y) d z e =
    left_known (d x) w z y d ∙ decided (d x) (d w) (d z) z (known y) e ∙ sym (right_known (d w) x z y d)

-- a row of one operand more in front

pub all_behind : (e : Expression) (es : Expressions) (f : Folded) → folded_all (with_expression e es) f ≡ folded_all es (behind_all f (folded e))
all_behind e no_expressions f = last_of_all f (folded e)
  where
    last_of_all : (f g : Folded) → if_also f (as_truth g) (λ z. not (truth z)) (pos 0) (as_truth g) ≡ as_truth (behind_all f g)
    last_of_all no_constant g = refl
    last_of_all undefined no_constant = refl
    last_of_all undefined undefined = refl
    last_of_all undefined (known y) = refl
    last_of_all (known x) no_constant = refl
    last_of_all (known x) undefined = elim (truth x) as (λ b. cond (not b) (known (pos 0)) undefined ≡ as_truth (cond (not b) (known (pos 0)) undefined)) [ true ↦ refl | false ↦ refl ]
    last_of_all (known x) (known y) = elim (truth x) as (λ b. cond (not b) (known (pos 0)) (as_truth (known y)) ≡ as_truth (cond (not b) (known (pos 0)) (known y))) [ true ↦ refl | false ↦ refl ]
all_behind e (with_expression x es) f = sym (together f (folded e) (folded_all es (folded x)) (λ z. not (truth z)) (pos 0) refl)

pub any_behind : (e : Expression) (es : Expressions) (f : Folded) → folded_any (with_expression e es) f ≡ folded_any es (behind_any f (folded e))
any_behind e no_expressions f = last_of_any f (folded e)
  where
    last_of_any : (f g : Folded) → if_also f (as_truth g) truth (pos 1) (as_truth g) ≡ as_truth (behind_any f g)
    last_of_any no_constant g = refl
    last_of_any undefined no_constant = refl
    last_of_any undefined undefined = refl
    last_of_any undefined (known y) = refl
    last_of_any (known x) no_constant = refl
    last_of_any (known x) undefined = elim (truth x) as (λ b. cond b (known (pos 1)) undefined ≡ as_truth (cond b (known (pos 1)) undefined)) [ true ↦ refl | false ↦ refl ]
    last_of_any (known x) (known y) = elim (truth x) as (λ b. cond b (known (pos 1)) (as_truth (known y)) ≡ as_truth (cond b (known (pos 1)) (known y))) [ true ↦ refl | false ↦ refl ]
any_behind e (with_expression x es) f = sym (together f (folded e) (folded_any es (folded x)) truth (pos 1) refl)
