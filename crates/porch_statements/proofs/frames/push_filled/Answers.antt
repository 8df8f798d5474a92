use Rattle.std.proofs.Common.{ap}
use Rattle.std.specs.Prelude.{is_ok}
use Rattle.porch_statements.proofs.Stacks.{when_ok}
use Rattle.porch_statements.proofs.frames.push_filled.Goals as goal

pub returns-in-Ok : goal.returns-in-Ok
returns-in-Ok c = record {
  filled = when_ok c.push_frame.result (λ x h. ap is_ok c.in-Ok.is) c.push_frame.ensures.pushed;
  pushed = c.push_frame.ensures.pushed;
}
