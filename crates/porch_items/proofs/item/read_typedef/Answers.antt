use Rattle.std.proofs.Common.{ap, ◌∙◌}
use Rattle.porch_unit.specs.Units.{typedef_on}
use Rattle.porch_statements.specs.Shown.{items_of, frames_of}
use Rattle.porch_items.proofs.Results.{when_ok}
use Rattle.porch_items.proofs.item.read_typedef.Goals as goal

pub returns : goal.returns
returns c =
    when_ok c.settle_typedef.result (λ x h text. h text ∙ ap (typedef_on (items_of text c.args.builder.now.items) (frames_of text c.args.builder.now.frames)) (c.in_ok-stage.ensures.step text)) c.settle_typedef.ensures
