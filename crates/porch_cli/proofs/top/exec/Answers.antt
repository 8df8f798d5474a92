use Rattle.std.proofs.Common.{refl}
use Rattle.porch_cli.proofs.Runs.{unchanged}
use Rattle.porch_cli.proofs.Reasons.{orders_with, reason_of_run, reason_of_naming, named_with}
use Rattle.porch_cli.specs.Answers.{setting_of}
use Rattle.porch_cli.specs.inside.Ordered.{order_of}
use Rattle.porch_cli.proofs.top.exec.Goals as goal

pub returns-in-Ok-clause-reason : goal.returns-in-Ok-clause-reason
returns-in-Ok-clause-reason g c = λ words w.
    reason_of_run words _ _ _ _ c.run_source.result (orders_with words _ (order_of c.args.run) c.in-Ok.layout w c.in-Ok.ensures.named c.in-Ok.ensures.allowed) c.run_source.ensures.runs

pub returns-in-Err-clause-reason : goal.returns-in-Err-clause-reason
returns-in-Err-clause-reason g c = λ words w.
    rw c.status_of_naming.ensures (reason_of_naming words _ _ (order_of c.args.run) c.in-Err.stop w c.in-Err.ensures.named (λ e. c.in-Err.ensures.failed (named_with c.in-Err.stop e)) (record { unread = refl; unwritten = unchanged (g.O.Sink.held c.args.out.now) }))
