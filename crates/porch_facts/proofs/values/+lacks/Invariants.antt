use Rattle.std.proofs.Common.{◌≡◌, map, drop}
use Rattle.porch_typed.specs.Views.{expression_of, expressions_of}
use Rattle.porch_lowering.specs.Values.{last_may_lack}
use Rattle.porch_facts.proofs.values.+lacks.Given as goal

abbrev pub invariant-last_may_lack-loop-e : goal.invariant-last_may_lack-loop-e
invariant-last_may_lack-loop-e l =
    last_may_lack (expressions_of (map expression_of (drop l.e-index l.more))) l.lacks
    ≡ last_may_lack (expressions_of (map expression_of l.more)) l.fn.first
