use Rattle.std.proofs.Common.{ap, ◌∙◌}
use Rattle.porch_unit.specs.Units.{declared_on}
use Rattle.porch_statements.specs.Shown.{items_of, frames_of}
use Rattle.porch_blocks.proofs.Stacks.{when_ok}
use Rattle.porch_blocks.proofs.declared.read_declaration.Goals as goal

pub returns : goal.returns
returns c = record { step = when_ok c.settle_declaration.result (λ x h text. h text ∙ ap (declared_on (items_of text c.args.builder.now.items) (frames_of text c.args.builder.now.frames)) (c.in_ok-stage.ensures.step text)) c.settle_declaration.ensures }
