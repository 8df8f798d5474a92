use Rattle.std.proofs.Common.{map, drop, sym, ap, ◌+◌, ◌∙◌}
use Rattle.porch_typed.specs.Views.{expression_of, expressions_of, steps_of}
use Rattle.porch_check.specs.Constants.{folded, folded_all, folded_any, folded_row}
use Rattle.porch_constants.specs.Views.{as_folded}
use Rattle.porch_constants.specs.inside.Rows.{behind_all, behind_any, step_of}
use Rattle.porch_constants.proofs.Rows.{item_in_front, row_view}
use Rattle.porch_constants.proofs.Together.{all_behind, any_behind}
use Rattle.porch_constants.proofs.fold.+folded.Goals as goal

pub folded-returns-in-Row : goal.folded-returns-in-Row
folded-returns-in-Row t c =
    c.folded_row.ensures
    ∙ ap (λ xs. folded_row (steps_of (map step_of xs)) (as_folded c.folded.result)) c.as_slice.ensures
    ∙ ap (folded_row (steps_of (map step_of c.in-Row.steps))) (c.folded.ensures ∙ ap (λ x. folded (expression_of x)) c.get.ensures)
    ∙ ap folded (sym (row_view c.args.e.now c.in-Row.first c.in-Row.steps c.in-Row.is))

pub folded_all-loop-e-preserved : goal.folded_all-loop-e-preserved
folded_all-loop-e-preserved t c =
    ap (folded_all (expressions_of (map expression_of (drop (c.loop-e.e-index + 1) c.args.more.now))))
    (c.behind_all-value.ensures ∙ ap (behind_all (as_folded c.loop-e.value)) c.folded.ensures)
    ∙ sym (all_behind (expression_of c.e-item.result) (expressions_of (map expression_of (drop (c.loop-e.e-index + 1) c.args.more.now))) (as_folded c.loop-e.value))
    ∙ ap (λ xs. folded_all (expressions_of (map expression_of xs)) (as_folded c.loop-e.value)) (sym (item_in_front c.args.more.now c.loop-e.e-index c.e-item.result c.loop-e-test.true c.e-item.is))
    ∙ c.loop-e.invariant

pub folded_any-loop-e-preserved : goal.folded_any-loop-e-preserved
folded_any-loop-e-preserved t c =
    ap (folded_any (expressions_of (map expression_of (drop (c.loop-e.e-index + 1) c.args.more.now))))
    (c.behind_any-value.ensures ∙ ap (behind_any (as_folded c.loop-e.value)) c.folded.ensures)
    ∙ sym (any_behind (expression_of c.e-item.result) (expressions_of (map expression_of (drop (c.loop-e.e-index + 1) c.args.more.now))) (as_folded c.loop-e.value))
    ∙ ap (λ xs. folded_any (expressions_of (map expression_of xs)) (as_folded c.loop-e.value)) (sym (item_in_front c.args.more.now c.loop-e.e-index c.e-item.result c.loop-e-test.true c.e-item.is))
    ∙ c.loop-e.invariant
