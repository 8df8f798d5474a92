use Rattle.std.proofs.Common.{◌≡◌, drop}
use Rattle.porch_flat_text.specs.inside.Numbers.{number_after}
use Rattle.porch_flat_text.proofs.number.number_in.Given as goal

abbrev pub invariant-loop-digit : goal.invariant-loop-digit
invariant-loop-digit l = number_after 4294967295 l.number (drop l.digit-index l.digits) ≡ number_after 4294967295 0 l.digits
