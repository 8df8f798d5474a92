use Rattle.std.proofs.Common.{◌≡◌, refl, ap, subst, ◌∙◌, arith, Some}
use Rattle.porch_machine.specs.Column.{Bytes, Setting}
use Rattle.porch_cli.specs.inside.Running.{Advances, StepsOn}
use Rattle.porch_cli.proofs.Runs.{Came, came_nowhere, came_on, runs_over}
use Rattle.porch_cli.proofs.exec.run.Goals as goal

pub steps-init : goal.steps-init
steps-init g c =
    let none : c.args.machine.now.bytes.turns ≡ 0 = ap (λ (m : Bytes). m.turns) c.requires.start in
    record {
      fits = c.requires.fits;
      setting = refl;
      within = omega arith;
      later = omega arith;
      came = came_nowhere c.args.program.now c.args.machine.now.setting c.args.budget c.args.machine.now.bytes (g.O.Sink.held c.args.out.now);
    }

pub returns-in-Some-clause-runs : goal.returns-in-Some-clause-runs
returns-in-Some-clause-runs g c =
    let P : Setting → Type 0 = λ on. Advances c.args.program.now on c.args.budget c.steps.machine.bytes c.advance.new.machine.bytes
    (g.O.Sink.held c.steps.out) (g.O.Sink.held c.advance.new.out) (g.O.Sink.faults c.steps.out) (g.O.Sink.faults c.advance.new.out) (Some c.in-Some.status) in
    let advances = subst P c.steps.invariant.setting c.in-Some.ensures.advances in
    let Q : Bytes → Type 0 = λ start. Came c.args.program.now c.args.machine.now.setting c.args.budget start c.steps.machine.bytes (g.O.Sink.held c.args.out.now) (g.O.Sink.held c.steps.out) in
    let came = subst Q c.requires.start c.steps.invariant.came in
    runs_over c.args.program.now c.args.machine.now.setting c.args.budget c.steps.machine.bytes c.advance.new.machine.bytes
    (g.O.Sink.held c.args.out.now) (g.O.Sink.held c.steps.out) (g.O.Sink.held c.advance.new.out)
    (g.O.Sink.faults c.args.out.now) (g.O.Sink.faults c.steps.out) (g.O.Sink.faults c.advance.new.out) c.in-Some.status c.steps.invariant.later came advances

pub steps-preserved : goal.steps-preserved
steps-preserved g c =
    let P : Setting → Type 0 = λ on. StepsOn c.args.program.now on c.args.budget c.steps.machine.bytes c.advance.new.machine.bytes (g.O.Sink.held c.steps.out) (g.O.Sink.held c.advance.new.out) in
    let on = subst P c.steps.invariant.setting c.in_default.ensures.advances in
    let before = c.steps.invariant.later in
    let after = c.in_default.ensures.later in
    record {
      fits = c.in_default.ensures.fits;
      setting = c.in_default.ensures.setting ∙ c.steps.invariant.setting;
      within = on.within;
      later = omega arith;
      came = came_on c.args.program.now c.args.machine.now.setting c.args.budget c.args.machine.now.bytes c.steps.machine.bytes c.advance.new.machine.bytes
          (g.O.Sink.held c.args.out.now) (g.O.Sink.held c.steps.out) (g.O.Sink.held c.advance.new.out) c.steps.invariant.came on;
    }
