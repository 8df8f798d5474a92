-- Values of arguments, one after another.
use Rattle.std.specs.Prelude.{ℕ, nat_eq, if◌then◌else◌, List, length, Ok}
use Rattle.porch_lex.specs.declared.refusal.Rule.TheVariants.{Mismatch}
use Rattle.porch_typed.specs.Mirror as tree
use Rattle.porch_check.specs.Refusals.{refuse, and_then}
use Rattle.porch_check.specs.Scopes.{Scopes}
use Rattle.porch_check.specs.Operands.{Typed, typed_as, Form, operand, Typing, go_on, value_at, value_of}
use Rattle.porch_check.specs.Calls.{Argument, fitted_all}

abbrev pub argument_value : Argument → Scopes → Typing (ℕ × Typed)
argument_value a s = go_on (value_of a.at a.form s) (λ x s. Ok ((a.at, x), s))

-- a call, from the values of its arguments on
abbrev pub counted_call : (number at result : ℕ) → (params : List ℕ) → List (ℕ × Typed) → Scopes → Typing Form
counted_call k at result params xs s =
    if nat_eq (length params) (length xs)
    then and_then (fitted_all params xs s) (λ es. Ok (operand (typed_as (tree.call k es) (value_at s.shapes result)), s))
    else refuse Mismatch at
