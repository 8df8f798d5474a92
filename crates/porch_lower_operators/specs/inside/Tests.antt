-- Tests of values that are no int.
use Rattle.std.specs.Prelude.{ℕ, pos, if◌then◌else◌, [], ◌∷◌}
use Rattle.porch_flat.specs.declared.flat.Operand.{Operand}
use Rattle.porch_flat.specs.declared.flat.Operand.TheVariants.{Var, Constant}
use Rattle.porch_flat.specs.declared.whole.Command.{Command}
use Rattle.porch_flat.specs.declared.whole.Command.TheVariants as command
use Rattle.porch_lowering.specs.Code.{InUse, and_one, Code, plain}
use Rattle.porch_lowering.specs.Values.{INT}
use Rattle.porch_lowering.specs.Operators.{is_small, next_of, var_of}

-- what makes an int that is true where the value is
abbrev pub test_command : (target ty : ℕ) → Operand → Command
test_command t ty o = if is_small ty then command.Cast t (var_of o) else command.Ne t o (Constant (pos 0))

abbrev pub branch_on_test : (start : ℕ → ℕ) → (ty : ℕ) → Operand → (to : ℕ) → InUse → (label : ℕ) → Code
branch_on_test start ty o to used label =
    let t = next_of start INT used in
    plain (test_command t ty o ∷ command.If (Var t) to ∷ []) (and_one INT used) label
