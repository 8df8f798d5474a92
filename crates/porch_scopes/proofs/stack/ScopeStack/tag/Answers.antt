use Rattle.std.proofs.Common.{◌∷◌, reverse, sym, ap, ◌∙◌}
use Rattle.std.specs.Option.{option_map}
use Rattle.porch_check.specs.Scopes.{tag_in}
use Rattle.porch_scopes.specs.Views.{as_tag}
use Rattle.porch_scopes.specs.Stack.{ScopeStack}
use Rattle.porch_scopes.specs.inside.Stacked.{value_in}
use Rattle.porch_scopes.proofs.Stacked.{tags_found}
use Rattle.porch_scopes.proofs.stack.ScopeStack.tag.Goals as goal

pub returns : goal.returns
returns c =
    ap (option_map (as_tag c.args.name.now))
    (c.value_of.ensures ∙ ap value_in (c.find.ensures ∙ c.self.invariant.finds_tags.same c.args.name.now))
    ∙ sym (tags_found c.args.name.now (c.self.inside.inner ∷ reverse c.self.inside.outer.items))
    ∙ ap (λ (s : ScopeStack). tag_in c.args.name.now (s.inner ∷ s.outer)) c.self.view_is
