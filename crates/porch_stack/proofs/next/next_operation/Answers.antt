use Rattle.std.proofs.Common.{List, ◌≡◌, ◌∙◌, ap, subst, slice_get, Some}
use Rattle.porch_operations.specs.declared.operation.Operation.{Operation}
use Rattle.porch_load.specs.declared.body.Body.{Body}
use Rattle.porch_stack.specs.Holding.{frame_of}
use Rattle.porch_stack.proofs.NextOperation.{some_next, none_next}
use Rattle.porch_stack.proofs.next.next_operation.Goals as goal

pub returns-clause-some : goal.returns-clause-some
returns-clause-some c =
    some_next c.args.loaded.now c.requires.loaded (frame_of c.args.frame.now) c.body_at-body.result.now
    (subst (λ (xs : List Body). slice_get xs c.args.frame.now.function ≡ Some c.body_at-body.result.now) c.deref.ensures.value c.body_at-body.ensures)
    c.operation_at.result (c.operation_at.ensures ∙ ap (λ (os : List Operation). slice_get os c.args.frame.now.next) c.deref-2.ensures.value)

pub returns-clause-none : goal.returns-clause-none
returns-clause-none c =
    none_next c.args.loaded.now c.requires.loaded (frame_of c.args.frame.now) c.body_at-body.result.now
    (subst (λ (xs : List Body). slice_get xs c.args.frame.now.function ≡ Some c.body_at-body.result.now) c.deref.ensures.value c.body_at-body.ensures)
    c.operation_at.result (c.operation_at.ensures ∙ ap (λ (os : List Operation). slice_get os c.args.frame.now.next) c.deref-2.ensures.value)
