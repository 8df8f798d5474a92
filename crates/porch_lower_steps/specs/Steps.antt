-- A step of a row of operators, as porch_lowering's `steps_code` has it.
use Rattle.std.specs.Prelude.{ℕ, ◌≡◌, Option}
use Rattle.porch_typed.specs.declared.typed.Operator.{Operator}
use Rattle.porch_typed.specs.Mirror.{Program}
use Rattle.porch_lowering.specs.Code.{InUse, and_one, at_most}
use Rattle.porch_lowering.specs.Values.{operator_type}
use Rattle.porch_lowering.specs.Operators.{operate}
use Rattle.porch_lowering.specs.Expression.{target, with_target}
use Rattle.porch_emitter.specs.Made.{Made, and_taken, with_code, with_used}
use Rattle.porch_lower_steps.specs.declared.steps.Operands as step

-- what is in use with the temporaries of the operands
abbrev pub in_use_with : step.Operands → (free : InUse) → InUse
in_use_with x free = and_taken x.right_taken (and_taken x.left_taken free)

-- the variable that the value of a step goes to
abbrev pub IsTarget : Operator → (to : Option ℕ) → (free : InUse) → (before : Made) → (variable : ℕ) → Type 0
IsTarget op to free before d = (p : Program) → d ≡ target p before.start to (operator_type op) free

-- Code in the making before a step and after it. Besides the operands the target is in use in it, and after it the
-- target alone.
abbrev pub IsStep : Operator → (to : Option ℕ) → step.Operands → (free : InUse) → (before after : Made) → Type 0
IsStep op to x free before after =
    (p : Program)
    → after
    ≡ with_used
    (with_code before
    (operate before.start op (target p before.start to (operator_type op) free) x.left.operand x.left.ty x.right.operand
    x.right.ty (at_most (with_target p before.start to (operator_type op) free) before.used) before.label))
    (and_one (operator_type op) free)
