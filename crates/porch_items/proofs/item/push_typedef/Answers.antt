use Rattle.std.proofs.Common.{ap, ◌∙◌}
use Rattle.porch_tree.specs.Views.{item_of}
use Rattle.porch_statements.specs.Shown.{items_of}
use Rattle.porch_items.proofs.Results.{when_ok, map_more}
use Rattle.porch_items.proofs.item.push_typedef.Goals as goal

pub returns : goal.returns
returns c =
    when_ok c.push.result (λ x e text. ap (items_of text) e ∙ map_more (item_of text) c.args.items.now _) c.push.ensures.ok
