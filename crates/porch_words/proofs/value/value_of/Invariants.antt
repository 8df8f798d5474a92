use Rattle.std.proofs.Common.{◌≡◌, drop}
use Rattle.porch_words.specs.inside.Reading.{value_behind}
use Rattle.porch_words.proofs.value.value_of.Given as goal

-- the digits that are left, behind the value so far, give what all of them do
abbrev pub invariant-loop-digit : goal.invariant-loop-digit
invariant-loop-digit l = value_behind l.value (drop l.digit-index l.digits) ≡ value_behind 0 l.digits
