use Rattle.std.proofs.Common.{[], ◌∷◌, ◌++◌, ap, ◌∙◌}
use Rattle.porch_tree.specs.Mirror.{function}
use Rattle.porch_tree.specs.Views.{item_of}
use Rattle.porch_unit.specs.Units.{state, at_item}
use Rattle.porch_statements.specs.Shown.{items_of}
use Rattle.porch_statements.proofs.Stacks.{when_ok, map_more}
use Rattle.porch_statements.proofs.closing.define.Goals as goal

pub returns : goal.returns
returns c =
    when_ok c.push.result (λ x e text frames. ap (λ xs. state xs frames at_item) (ap (items_of text) e ∙ map_more (item_of text) c.args.items.now _
    ∙ ap (λ d. items_of text c.args.items.now ++ function d ∷ []) (c.definition_from-definition.ensures text))) c.push.ensures.ok
