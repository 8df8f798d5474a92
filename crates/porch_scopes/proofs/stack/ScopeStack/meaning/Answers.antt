use Rattle.std.proofs.Common.{◌∷◌, reverse, sym, ap, ◌∙◌}
use Rattle.std.specs.Option.{option_map}
use Rattle.porch_check.specs.Scopes.{name_in}
use Rattle.porch_scopes.specs.Views.{as_meaning}
use Rattle.porch_scopes.specs.Stack.{ScopeStack}
use Rattle.porch_scopes.specs.inside.Stacked.{value_in}
use Rattle.porch_scopes.proofs.Stacked.{names_found}
use Rattle.porch_scopes.proofs.stack.ScopeStack.meaning.Goals as goal

pub returns : goal.returns
returns c =
    ap (option_map as_meaning)
    (c.value_of.ensures ∙ ap value_in (c.find.ensures ∙ c.self.invariant.finds_names.same c.args.name.now))
    ∙ sym (names_found c.args.name.now (c.self.inside.inner ∷ reverse c.self.inside.outer.items))
    ∙ ap (λ (s : ScopeStack). name_in c.args.name.now (s.inner ∷ s.outer)) c.self.view_is
