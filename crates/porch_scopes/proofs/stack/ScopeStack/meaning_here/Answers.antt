use Rattle.std.proofs.Common.{◌≡◌, length, reverse, sym, ap, ◌∙◌, arith}
use Rattle.std.proofs.lemmas.Grind.{common_steps}
use Rattle.std.specs.Option.{option_map}
use Rattle.porch_check.specs.Scopes.{of_name}
use Rattle.porch_scopes.specs.Views.{as_meaning}
use Rattle.porch_scopes.specs.Stack.{ScopeStack}
use Rattle.porch_scopes.specs.inside.Stacked.{name_layers, at_depth}
use Rattle.porch_scopes.proofs.Stacked.{names_first, names_deep, here}
use Rattle.porch_scopes.proofs.stack.ScopeStack.meaning_here.Goals as goal

pub returns : goal.returns
returns c =
    let long : c.len.result ≡ length c.self.inside.outer.items = grind (arith, common_steps, c.len.ensures) in
    let around = reverse c.self.inside.outer.items in
    let newest = reverse c.self.inside.inner.names.items in
    ap (option_map as_meaning)
    (c.within.ensures
    ∙ (λ i. at_depth ((long ∙ names_deep c.self.inside.outer.items) i)
    ((c.find.ensures ∙ c.self.invariant.finds_names.same c.args.name.now) i))
    ∙ here c.args.name.now newest (name_layers around))
    ∙ sym (names_first c.args.name.now newest)
    ∙ ap (λ (s : ScopeStack). of_name c.args.name.now s.inner.names) c.self.view_is
