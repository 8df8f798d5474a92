use Rattle.std.proofs.Common.{◌≡◌, ◌+◌, drop, length}
use Rattle.porch_flat.specs.whole.Lines.{function_lines}
use Rattle.porch_flat.specs.whole.Search.{first_rule}
use Rattle.porch_flat.specs.inside.Walks.{first_of}
use Rattle.porch_flat.proofs.whole.walk.walk_functions.Given as goal

abbrev pub invariant-loop-number : goal.invariant-loop-number
invariant-loop-number l =
    (first_of (first_rule l.sort l.flat) l.start (function_lines 0 l.flat.functions)
    ≡ first_of (first_rule l.sort l.flat) l.line (function_lines l.number (drop l.number l.flat.functions)))
    × (l.start + length (function_lines 0 l.flat.functions) ≡ l.line + length (function_lines l.number (drop l.number l.flat.functions)))
