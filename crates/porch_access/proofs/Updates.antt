-- The steps of an assignment with an operator.
use Rattle.std.proofs.Common.{◌≡◌, ℕ, Result, Ok, Err, sym, ap, ◌∙◌}
use Rattle.porch_lex.specs.declared.refusal.Refusal.{Refusal}
use Rattle.porch_tree.specs.declared.tree.Infix.{Infix}
use Rattle.porch_typed.specs.Mirror.{Expression, Place, assign_by}
use Rattle.porch_check.specs.Refusals.{and_then}
use Rattle.porch_check.specs.Shapes.{shape_of}
use Rattle.porch_check.specs.Scopes.{Scopes}
use Rattle.porch_check.specs.Operands.{Typed, typed_as, Form, operand, Typing, go_on, value_at, fitted, read_value}
use Rattle.porch_check.specs.Operators.{Operation, assigned_by}
use Rattle.porch_access.specs.inside.Assignments.{fitting_update, updated_by}

-- the result of the operator may be stored
pub fits : (at n : ℕ) (p : Place) (o : Operation) (s : Scopes) (x : Typed) (y : Expression) → x ≡ typed_as o.right o.value → fitted at n x s ≡ Ok y → fitting_update at p n o s ≡ Ok (operand (typed_as (assign_by n o.operator p o.right) (value_at s.shapes n)), s)
fits at n p o s x y is h =
    let goes : Expression → Typing Form = λ e. Ok (operand (typed_as (assign_by n o.operator p o.right) (value_at s.shapes n)), s) in
    ap (λ x. and_then (fitted at n x s) goes) (sym is) ∙ ap (λ r. and_then r goes) h

-- it may not
pub fits_not : (at n : ℕ) (p : Place) (o : Operation) (s : Scopes) (x : Typed) (r : Refusal) → x ≡ typed_as o.right o.value → fitted at n x s ≡ Err r → fitting_update at p n o s ≡ Err r
fits_not at n p o s x r is h =
    let goes : Expression → Typing Form = λ e. Ok (operand (typed_as (assign_by n o.operator p o.right) (value_at s.shapes n)), s) in
    ap (λ x. and_then (fitted at n x s) goes) (sym is) ∙ ap (λ r. and_then r goes) h

-- from the value of the place on
pub from_reading : (op : Infix) (at : ℕ) (p : Place) (n : ℕ) (y : Typed) (s t : Scopes) (x z : Typed) → read_value (shape_of s.shapes n) p n s ≡ Ok (x, t) → z ≡ x → assigned_by op at p n y s ≡ updated_by op at p n z y t
from_reading op at p n y s t x z h is =
    ap (λ r. go_on r (λ x s. updated_by op at p n x y s)) h ∙ ap (λ x. updated_by op at p n x y t) (sym is)
