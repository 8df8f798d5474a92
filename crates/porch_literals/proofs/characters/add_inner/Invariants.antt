use Rattle.std.proofs.Common.{◌≡◌, ◌++◌, length}
use Rattle.porch_check.specs.Constants.{characters_from}
use Rattle.porch_literals.proofs.characters.add_inner.Given as goal

abbrev pub invariant-characters : goal.invariant-characters
invariant-characters l =
    l.characters ++ characters_from l.rest 0 ≡ l.fn.characters ++ characters_from l.inner 0

abbrev pub decreases-characters : goal.decreases-characters
decreases-characters l = length l.rest
