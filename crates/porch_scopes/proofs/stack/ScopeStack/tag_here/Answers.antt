use Rattle.std.proofs.Common.{◌≡◌, length, reverse, sym, ap, ◌∙◌, arith}
use Rattle.std.proofs.lemmas.Grind.{common_steps}
use Rattle.std.specs.Option.{option_map}
use Rattle.porch_check.specs.Scopes.{of_tag}
use Rattle.porch_scopes.specs.Views.{as_tag}
use Rattle.porch_scopes.specs.Stack.{ScopeStack}
use Rattle.porch_scopes.specs.inside.Stacked.{tag_layers, at_depth}
use Rattle.porch_scopes.proofs.Stacked.{tags_first, tags_deep, here}
use Rattle.porch_scopes.proofs.stack.ScopeStack.tag_here.Goals as goal

pub returns : goal.returns
returns c =
    let long : c.len.result ≡ length c.self.inside.outer.items = grind (arith, common_steps, c.len.ensures) in
    let around = reverse c.self.inside.outer.items in
    let newest = reverse c.self.inside.inner.tags.items in
    ap (option_map (as_tag c.args.name.now))
    (c.within.ensures
    ∙ (λ i. at_depth ((long ∙ tags_deep c.self.inside.outer.items) i)
    ((c.find.ensures ∙ c.self.invariant.finds_tags.same c.args.name.now) i))
    ∙ here c.args.name.now newest (tag_layers around))
    ∙ sym (tags_first c.args.name.now newest)
    ∙ ap (λ (s : ScopeStack). of_tag c.args.name.now s.inner.tags) c.self.view_is
