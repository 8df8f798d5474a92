use Rattle.std.proofs.Common.{◌≡◌, ◌+◌, drop}
use Rattle.porch_flat.specs.whole.Lines.{init_lines}
use Rattle.porch_flat.specs.whole.Search.{first_rule}
use Rattle.porch_flat.specs.inside.Walks.{first_of}
use Rattle.porch_flat.proofs.whole.walk.walk_inits.Given as goal

abbrev pub invariant-loop-at : goal.invariant-loop-at
invariant-loop-at l =
    first_of (first_rule l.sort l.flat) l.start (init_lines l.number l.g 0 l.g.inits)
    ≡ first_of (first_rule l.sort l.flat) (l.start + l.at) (init_lines l.number l.g l.at (drop l.at l.g.inits))
