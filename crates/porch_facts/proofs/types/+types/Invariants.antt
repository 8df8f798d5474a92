use Rattle.std.proofs.Common.{◌≡◌, map, drop}
use Rattle.porch_typed.specs.Views.{expression_of, expressions_of, program_of}
use Rattle.porch_lowering.specs.Values.{last_type}
use Rattle.porch_facts.proofs.types.+types.Given as goal

abbrev pub invariant-last_type-loop-e : goal.invariant-last_type-loop-e
invariant-last_type-loop-e l =
    last_type (program_of l.fn.program) (expressions_of (map expression_of (drop l.e-index l.more))) l.ty
    ≡ last_type (program_of l.fn.program) (expressions_of (map expression_of l.more)) l.fn.first
