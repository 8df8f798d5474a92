use Rattle.std.proofs.Common.{◌≡◌, ◌≤◌, ◌+◌, drop, length}
use Rattle.porch_flat.specs.whole.Lines.{global_lines}
use Rattle.porch_flat.specs.whole.Rules.{MOST_GLOBAL_LEAVES}
use Rattle.porch_flat.specs.whole.Search.{first_rule}
use Rattle.porch_flat.specs.inside.Walks.{first_of, leaves_before}
use Rattle.porch_flat.proofs.whole.walk.walk_globals.Given as goal

abbrev pub invariant-loop-number : goal.invariant-loop-number
invariant-loop-number l =
    (first_of (first_rule l.sort l.flat) l.start (global_lines 0 l.flat.globals)
    ≡ first_of (first_rule l.sort l.flat) l.line (global_lines l.number (drop l.number l.flat.globals)))
    × (l.start + length (global_lines 0 l.flat.globals) ≡ l.line + length (global_lines l.number (drop l.number l.flat.globals)))
    × (l.leaves ≡ leaves_before l.flat l.number)
    × (l.leaves ≤ MOST_GLOBAL_LEAVES)
