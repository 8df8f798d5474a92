use Rattle.std.proofs.Common.{◌≡◌, map, drop}
use Rattle.porch_typed.specs.Views.{expression_of, expressions_of, program_of}
use Rattle.porch_lowering.specs.Expression.{last_writes_last}
use Rattle.porch_facts.proofs.values.+last.Given as goal

abbrev pub invariant-last_writes_last-loop-e : goal.invariant-last_writes_last-loop-e
invariant-last_writes_last-loop-e l =
    last_writes_last (program_of l.fn.program) (expressions_of (map expression_of (drop l.e-index l.more))) l.writes
    ≡ last_writes_last (program_of l.fn.program) (expressions_of (map expression_of l.more)) l.fn.first
