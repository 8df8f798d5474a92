use Rattle.std.proofs.Common.{◌≡◌, drop}
use Rattle.porch_flat_text.specs.inside.Numbers.{number_after, magnitude_in}
use Rattle.porch_flat_text.proofs.number.magnitude_in.Given as goal

abbrev pub invariant-loop-digit : goal.invariant-loop-digit
invariant-loop-digit l = number_after 340282366920938463463374607431768211455 l.number (drop l.digit-index l.digits) ≡ magnitude_in l.digits
