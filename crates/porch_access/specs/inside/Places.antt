-- `&`, `++` and `--` of places.
use Rattle.std.specs.Prelude.{ℕ, Bool, Result, Ok}
use Rattle.porch_lex.specs.declared.refusal.Refusal.{Refusal}
use Rattle.porch_typed.specs.declared.typed.Direction.{Direction}
use Rattle.porch_typed.specs.Mirror.{Place, increment}
use Rattle.porch_typed.specs.Mirror as tree
use Rattle.porch_check.specs.Refusals.{and_then}
use Rattle.porch_check.specs.Shapes.{pointer}
use Rattle.porch_check.specs.Scopes.{Scopes, with_shape}
use Rattle.porch_check.specs.Operands.{address, typed_as, Form, operand, Typing, value_at}
use Rattle.porch_check.specs.Operators.{increment_value}

abbrev pub address_of : Place → (shape : ℕ) → Scopes → Typing Form
address_of p n s = let r = with_shape (pointer n) s in Ok (operand (typed_as (tree.address r.0 p) (address r.0 n)), r.1)

abbrev pub increment_of : (before : Bool) → Direction → (at : ℕ) → Place → (shape : ℕ) → Scopes → Result Form Refusal
increment_of before way at p n s =
    and_then (increment_value s at (value_at s.shapes n)) (λ v. Ok (operand (typed_as (increment n before way p) v)))
