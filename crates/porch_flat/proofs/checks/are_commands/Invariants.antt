use Rattle.porch_flat.specs.inside.Checked.{AreCommands}
use Rattle.porch_flat.proofs.checks.are_commands.Given as goal

abbrev pub invariant-loop-at : goal.invariant-loop-at
invariant-loop-at l = AreCommands l.function l.at
