use Rattle.std.proofs.Common.{sym}
use Rattle.porch_syntax.specs.Tree.{program_of}
use Rattle.porch_cli.specs.Answers.{IsProgram, setting_of}
use Rattle.porch_cli.proofs.Reasons.{run_ended, run_refused}
use Rattle.porch_cli.proofs.top.run_text.Goals as goal

pub run_under-requires-clause-lowerable : goal.run_under-requires-clause-lowerable
run_under-requires-clause-lowerable g c = c.sources_are_lowerable.ensures _ (program_of c.in-Ok.tree) c.in-Ok.ensures.read.program

pub returns-in-Ok-clause-runs : goal.returns-in-Ok-clause-runs
returns-in-Ok-clause-runs g c =
    let is : IsProgram c.args.text.now (program_of c.in-Ok.tree) = record { is = c.in-Ok.ensures.read; only = λ q s. sym (c.in-Ok.ensures.only q s) } in
    run_ended c.args.text.now (program_of c.in-Ok.tree) (setting_of c.args.layout.now c.args.limits.now) c.args.limits.now.turns _ _ _ _ c.run_under.result is c.run_under.ensures.runs

pub returns-in-Err-clause-runs : goal.returns-in-Err-clause-runs
returns-in-Err-clause-runs g c =
    rw c.status_of_fault.ensures (run_refused c.args.text.now (setting_of c.args.layout.now c.args.limits.now) c.args.limits.now.turns (g.O.Sink.held c.args.out.now) (g.O.Sink.faults c.args.out.now) c.in-Err.fault c.in-Err.ensures.refused)
