use Rattle.std.proofs.Common.{◌≡◌, ◌+◌, drop}
use Rattle.porch_flat.specs.whole.Lines.{var_lines}
use Rattle.porch_flat.specs.whole.Search.{first_rule}
use Rattle.porch_flat.specs.inside.Walks.{first_of}
use Rattle.porch_flat.proofs.whole.walk.walk_vars.Given as goal

abbrev pub invariant-loop-v : goal.invariant-loop-v
invariant-loop-v l =
    first_of (first_rule l.sort l.flat) l.start (var_lines l.f 0 l.f.vars)
    ≡ first_of (first_rule l.sort l.flat) (l.start + l.v) (var_lines l.f l.v (drop l.v l.f.vars))
