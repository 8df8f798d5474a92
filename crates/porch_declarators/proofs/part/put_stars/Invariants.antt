-- The stars so far stand behind what was there.
use Rattle.std.proofs.Common.{◌≡◌, ◌++◌, map, take}
use Rattle.porch_check.specs.Declarations.{stars_of}
use Rattle.porch_declarators.specs.Views.{as_part}
use Rattle.porch_declarators.proofs.part.put_stars.Given as goal

abbrev pub invariant-loop-star : goal.invariant-loop-star
invariant-loop-star l =
    map as_part l.parts.items ≡ map as_part l.initial.parts.items ++ stars_of l.at (take l._star-index l.stars)
