use Rattle.std.proofs.Common.{◌≡◌, ◌+◌, drop}
use Rattle.porch_flat.specs.whole.Lines.{command_lines}
use Rattle.porch_flat.specs.whole.Search.{first_rule}
use Rattle.porch_flat.specs.inside.Walks.{first_of}
use Rattle.porch_flat.proofs.whole.walk.walk_commands.Given as goal

abbrev pub invariant-loop-at : goal.invariant-loop-at
invariant-loop-at l =
    first_of (first_rule l.sort l.flat) l.start (command_lines l.f 0 l.f.commands)
    ≡ first_of (first_rule l.sort l.flat) (l.start + l.at) (command_lines l.f l.at (drop l.at l.f.commands))
