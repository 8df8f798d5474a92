use Rattle.std.proofs.Common.{◌≡◌, map, drop}
use Rattle.porch_typed.specs.Views.{expression_of, expressions_of, steps_of}
use Rattle.porch_check.specs.Constants.{folded_all, folded_any, folded_row}
use Rattle.porch_constants.specs.Views.{as_folded}
use Rattle.porch_constants.specs.inside.Rows.{step_of}
use Rattle.porch_constants.proofs.fold.+folded.Given as goal

abbrev pub invariant-folded_row-loop-operator : goal.invariant-folded_row-loop-operator
invariant-folded_row-loop-operator l =
    folded_row (steps_of (map step_of (drop l.operator-index l.steps))) (as_folded l.value)
    ≡ folded_row (steps_of (map step_of l.steps)) (as_folded l.fn.first)

abbrev pub invariant-folded_all-loop-e : goal.invariant-folded_all-loop-e
invariant-folded_all-loop-e l =
    folded_all (expressions_of (map expression_of (drop l.e-index l.more))) (as_folded l.value)
    ≡ folded_all (expressions_of (map expression_of l.more)) (as_folded l.fn.first)

abbrev pub invariant-folded_any-loop-e : goal.invariant-folded_any-loop-e
invariant-folded_any-loop-e l =
    folded_any (expressions_of (map expression_of (drop l.e-index l.more))) (as_folded l.value)
    ≡ folded_any (expressions_of (map expression_of l.more)) (as_folded l.fn.first)
