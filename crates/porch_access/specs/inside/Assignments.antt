-- The steps of an assignment with an operator.
use Rattle.std.specs.Prelude.{ℕ, Bool, true, false, Ok}
use Rattle.porch_tree.specs.declared.tree.Assigning.{Assigning}
use Rattle.porch_tree.specs.declared.tree.Assigning.TheVariants.{Plain}
use Rattle.porch_tree.specs.declared.tree.Infix.{Infix}
use Rattle.porch_typed.specs.Mirror.{Expression, Place, assign_by}
use Rattle.porch_check.specs.Refusals.{and_then}
use Rattle.porch_check.specs.Scopes.{Scopes}
use Rattle.porch_check.specs.Operands.{Typed, typed_as, Form, operand, Typing, value_at, fitted}
use Rattle.porch_check.specs.Operators.{Operation, operated}
use Rattle.porch_operands.specs.Views.{as_value, became}
use Rattle.porch_access.specs.declared.assignments.Update as code_update

abbrev pub is_plain : Assigning → Bool
is_plain Plain = true
is_plain a = false

-- what the operator gives, where it may be stored
abbrev pub fitting_update : (at : ℕ) → Place → (shape : ℕ) → Operation → Scopes → Typing Form
fitting_update at p n o s =
    and_then (fitted at n (typed_as o.right o.value) s) (λ e.
    Ok (operand (typed_as (assign_by n o.operator p o.right) (value_at s.shapes n)), s))

-- with the value of the place
abbrev pub updated_by : Infix → (at : ℕ) → Place → (shape : ℕ) → Typed → Typed → Scopes → Typing Form
updated_by op at p n x y s = and_then (operated op at x y s) (λ o. fitting_update at p n o s)

abbrev pub updated_with : (shape : ℕ) → Place → Expression → code_update.Update → Typed
updated_with n p e u =
    typed_as (assign_by n u.operation.operator p (became u.operation.right e)) (as_value u.value)
