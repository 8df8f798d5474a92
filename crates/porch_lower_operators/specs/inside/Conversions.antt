-- Operands that are converted.
use Rattle.std.specs.Prelude.{ℕ, Bool, [], ◌∷◌}
use Rattle.porch_flat.specs.declared.flat.Operand.{Operand}
use Rattle.porch_flat.specs.declared.whole.Command.TheVariants.{Cast}
use Rattle.porch_lowering.specs.Operators.{commands_if, next_of, used_if, var_of}
use Rattle.porch_emitter.specs.Made.{Made, with_commands, with_used}

-- code with the conversion of an operand behind, if it is converted, to the next temporary of the type
abbrev pub with_converted : Bool → Operand → (to : ℕ) → Made → Made
with_converted converted o to m =
    with_used (with_commands m (commands_if converted (Cast (next_of m.start to m.used) (var_of o) ∷ []))) (used_if converted m.used to)
