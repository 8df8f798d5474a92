use Rattle.std.proofs.Common.{◌∷◌, reverse, sym, subst}
use Rattle.porch_scopes.specs.inside.Bindings.{Finds}
use Rattle.porch_scopes.proofs.Stacked.{all_left}
use Rattle.porch_scopes.proofs.stack.ScopeStack.leave.Goals as goal

pub invariant_of-self : goal.invariant_of-self
invariant_of-self c =
    all_left c.self.inside.inner c.replace.new.dest c.in-Some.around c.self.inside.outer.items c.pop.new.self.items
    c.self.inside.names.entries c.unbind.new.known.entries c.self.inside.tags.entries c.unbind-in-Some.new.known.entries
    c.in-Some.ensures.items c.replace.ensures.after
    (λ ls finds. c.unbind.ensures.finds ls
    (subst (λ xs. Finds c.self.inside.names.entries (reverse xs ∷ ls)) (sym c.deref.ensures.value) finds))
    (λ ls finds. c.unbind-in-Some.ensures.finds ls
    (subst (λ xs. Finds c.self.inside.tags.entries (reverse xs ∷ ls)) (sym c.deref-in-Some.ensures.value) finds))
    c.self.invariant
