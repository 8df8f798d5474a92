use Rattle.std.proofs.Common.{◌++◌, ◌∷◌, [], ap, ◌∙◌}
use Rattle.porch_scopes.specs.declared.scope.Scope as code_scope
use Rattle.porch_scopes.proofs.Stacked.{all_entered}
use Rattle.porch_scopes.proofs.stack.ScopeStack.enter.Goals as goal

pub invariant_of-self-2 : goal.invariant_of-self-2
invariant_of-self-2 c =
    all_entered c.self.inside.inner c.replace-around.new.dest c.self.inside.outer.items c.push_reserved.new.self.items
    c.self.inside.names.entries c.self.inside.tags.entries
    (ap (λ (s : code_scope.Scope). s.names.items) c.replace-around.ensures.after ∙ c.new.ensures.items)
    (ap (λ (s : code_scope.Scope). s.tags.items) c.replace-around.ensures.after ∙ c.new-2.ensures.items)
    (c.push_reserved.ensures.items
    ∙ (λ i. c.reserve.ensures.items i ++ c.replace-around.ensures.value i ∷ []))
    c.self.invariant
