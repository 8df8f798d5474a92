use Rattle.std.proofs.Common.{[], ◌∷◌, ◌++◌, ap, ◌∙◌}
use Rattle.porch_tree.specs.Mirror.{declaration}
use Rattle.porch_tree.specs.Views.{declaration_of, item_of}
use Rattle.porch_statements.specs.Shown.{items_of}
use Rattle.porch_items.proofs.Results.{when_ok, map_more}
use Rattle.porch_items.proofs.item.add_declaration.Goals as goal

pub returns : goal.returns
returns c =
    when_ok c.push.result (λ x e text. ap (items_of text) e ∙ map_more (item_of text) c.args.items.now _
    ∙ ap (λ d. (items_of text c.args.items.now) ++ declaration (declaration_of text d) ∷ []) c.into_inner.ensures) c.push.ensures.ok
