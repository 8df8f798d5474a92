use Rattle.std.proofs.Common.{ap}
use Rattle.porch_unit.specs.Units.{state, at_item}
use Rattle.porch_statements.specs.Shown.{frames_of}
use Rattle.porch_items.proofs.item.end_declaration.Goals as goal

pub returns : goal.returns
returns c = λ text. ap (λ xs. state xs (frames_of text c.args.builder.now.frames) at_item) (c.in_ok-add_declaration.ensures text)
