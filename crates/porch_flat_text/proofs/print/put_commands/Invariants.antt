use Rattle.std.proofs.Common.{◌≡◌, ◌++◌, drop}
use Rattle.porch_flat_text.specs.inside.Texts.{commands_text}
use Rattle.porch_flat_text.proofs.print.put_commands.Given as goal

abbrev pub invariant-loop-command : goal.invariant-loop-command
invariant-loop-command l = l.out.items ++ commands_text (drop l.command-index l.commands) ≡ l.fn.out.items ++ commands_text l.commands
