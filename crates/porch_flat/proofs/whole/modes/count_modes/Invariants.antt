use Rattle.std.proofs.Common.{◌≡◌, take}
use Rattle.std.specs.Prelude.{count_by}
use Rattle.porch_flat.specs.whole.Form.{form_of, is_mode}
use Rattle.porch_flat.proofs.whole.modes.count_modes.Given as goal

abbrev pub invariant-loop-command : goal.invariant-loop-command
invariant-loop-command l = l.count ≡ count_by (λ c. is_mode (form_of c)) (take l.command-index l.commands)
