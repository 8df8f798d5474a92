use Rattle.std.proofs.Common.{◌≡◌, ◌-◌, drop}
use Rattle.porch_flat.specs.whole.Lines.{type_lines}
use Rattle.porch_flat.specs.whole.Search.{first_rule}
use Rattle.porch_flat.specs.inside.Walks.{first_of}
use Rattle.porch_flat.proofs.whole.walk.walk_types.Given as goal

abbrev pub invariant-loop-number : goal.invariant-loop-number
invariant-loop-number l =
    first_of (first_rule l.sort l.flat) 3 (type_lines 8 (drop 8 l.flat.types))
    ≡ first_of (first_rule l.sort l.flat) (l.number - 5) (type_lines l.number (drop l.number l.flat.types))
