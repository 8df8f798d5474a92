use Rattle.porch_cli.specs.Answers.{setting_of}
use Rattle.porch_cli.proofs.Reasons.{stopped_with, run_of_text, run_of_stop}
use Rattle.porch_cli.proofs.top.run_source.Goals as goal

pub returns-in-Ok-clause-runs : goal.returns-in-Ok-clause-runs
returns-in-Ok-clause-runs g c =
    let runs = rw c.as_slice.ensures.value at c.run_text.ensures.runs in
    run_of_text _ _ _ _ _ _ _ _ _ _ _ c.run_text.result c.in-Ok.ensures.read runs

pub returns-in-Err-clause-runs : goal.returns-in-Err-clause-runs
returns-in-Err-clause-runs g c =
    rw c.status_of_stop.ensures (run_of_stop _ _ _ _ _ _ _ _ _ c.in-Err.stop (λ e. c.in-Err.ensures.cause.rose (stopped_with c.in-Err.stop e)))
