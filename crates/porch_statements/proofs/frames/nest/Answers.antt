use Rattle.std.proofs.Common.{ap}
use Rattle.porch_unit.specs.Units.{state, at_statement}
use Rattle.porch_statements.specs.Shown.{items_of}
use Rattle.porch_statements.proofs.frames.nest.Goals as goal

pub returns : goal.returns
returns c = record { nested = λ text. ap (λ fs. state (items_of text c.args.builder.now.items) fs at_statement) (c.in_ok-push_frame.ensures.pushed text) }
