use Rattle.std.proofs.Common.{subst}
use Rattle.porch_machine.specs.Column.{Setting}
use Rattle.porch_cli.specs.Answers.{setting_of}
use Rattle.porch_cli.specs.inside.Running.{RunsFlat}
use Rattle.porch_cli.proofs.Reasons.{run_of_machine}
use Rattle.porch_cli.proofs.compiled.run_program.Goals as goal

pub returns-in-Ok-clause-runs : goal.returns-in-Ok-clause-runs
returns-in-Ok-clause-runs g c =
    let budget = c.args.limits.now.turns in
    let P : Setting → Type 0 = λ on. RunsFlat c.args.program.now on budget (g.O.Sink.held c.args.out.now) (g.O.Sink.held c.run.new.out) (g.O.Sink.faults c.args.out.now) (g.O.Sink.faults c.run.new.out) c.run.result in
    run_of_machine c.args.program.now (setting_of c.args.layout.now c.args.limits.now) budget (g.O.Sink.held c.args.out.now) (g.O.Sink.held c.run.new.out) (g.O.Sink.faults c.args.out.now) (g.O.Sink.faults c.run.new.out) c.run.result (subst P c.in-Ok.ensures.setting c.run.ensures.runs)
