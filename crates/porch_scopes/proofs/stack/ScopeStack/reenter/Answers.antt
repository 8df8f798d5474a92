use Rattle.std.proofs.Common.{◌≡◌, Result, Ok, Err, OnOk, ◌∙◌}
use Rattle.porch_scopes.specs.inside.Again.{binds_names, binds_tags}
use Rattle.porch_scopes.proofs.BoundAgain.{again}
use Rattle.porch_scopes.proofs.stack.ScopeStack.reenter.Goals as goal

where_ok : {A E P Q : Type 0} (r : Result A E) → (P → Q) → OnOk r P → OnOk r Q
where_ok (Ok x) go h = go h
where_ok (Err e) go h = h

pub returns : goal.returns
returns c =
    where_ok c.declare_tags.result
    (λ h. h
    ∙ (λ i. binds_tags (c.deref-2.ensures.value i)
    ((c.in_ok-declare_names.ensures ∙ (λ j. binds_names (c.deref.ensures.value j) (c.in_ok-enter.ensures.entered j))) i))
    ∙ again c.args.scope.names.items c.args.scope.tags.items c.args.scope.completes c.args.self.now)
    c.declare_tags.ensures
