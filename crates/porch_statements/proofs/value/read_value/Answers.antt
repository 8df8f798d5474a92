use Rattle.std.proofs.Common.{ap, ◌∙◌}
use Rattle.porch_parts.specs.Ends.{found_in}
use Rattle.porch_unit.specs.Units.{value_on}
use Rattle.porch_statements.specs.Shown.{items_of, frames_of, purpose_of}
use Rattle.porch_statements.proofs.Stacks.{when_ok}
use Rattle.porch_statements.proofs.value.read_value.Goals as goal

pub returns-in-Ok : goal.returns-in-Ok
returns-in-Ok c = record {
  step =
      when_ok c.settle_value.result (λ x h text. h text ∙ ap (value_on (items_of text c.args.builder.now.items) (frames_of text c.args.builder.now.frames) (purpose_of text c.args.purpose))
      (c.found_in.ensures.found text c.read_token.new.reader.frames c.read_token.new.reader.parts ∙ ap found_in (c.in-Ok.ensures text))) c.settle_value.ensures;
}
