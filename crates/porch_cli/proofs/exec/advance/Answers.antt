use Rattle.std.proofs.Common.{[]}
use Rattle.porch_machine.specs.ByteRun.{counts_next}
use Rattle.porch_cli.proofs.Budget.{stays_within, left_over, one_left}
use Rattle.porch_cli.proofs.Runs.{unchanged, goes_on, shows_on}
use Rattle.porch_cli.proofs.exec.advance.Goals as goal

pub returns-in-Went-clause-advances : goal.returns-in-Went-clause-advances
returns-in-Went-clause-advances g c =
    let flat = c.args.program.now in
    let on = c.args.machine.now.setting in
    let m = c.args.machine.now.bytes in
    let n = c.args.budget in
    let some = rw (c.turn_next.ensures, c.turns-turns.ensures) at c.else-turn_next.either in
    let goes = c.in-Went.ensures.column in
    record {
      more = [];
      grew = unchanged (g.O.Sink.held c.args.out.now);
      within = stays_within (counts_next flat on m.frames) m.turns n c.step.new.self.bytes.turns c.in-Went.ensures.turns c.requires.within (one_left _ _ _ some);
      nearer = c.in-Went.ensures.nearer n c.requires.within (one_left _ _ _ some);
      goes = goes_on flat on n m c.step.new.self.bytes (left_over _ _ _ some) goes;
    }

pub returns-in-Ok-clause-advances : goal.returns-in-Ok-clause-advances
returns-in-Ok-clause-advances g c =
    let flat = c.args.program.now in
    let on = c.args.machine.now.setting in
    let m = c.args.machine.now.bytes in
    let n = c.args.budget in
    let some = rw (c.turn_next.ensures, c.turns-turns.ensures) at c.else-turn_next.either in
    let shows = c.in-Out.ensures.column in
    record {
      more = c.step.new.self.shown;
      grew = rw (c.shown.ensures) at c.in-Ok.ensures.gained;
      within = stays_within (counts_next flat on m.frames) m.turns n c.step.new.self.bytes.turns c.in-Out.ensures.turns c.requires.within (one_left _ _ _ some);
      nearer = c.in-Out.ensures.nearer n c.requires.within (one_left _ _ _ some);
      goes = shows_on flat on n m c.step.new.self.bytes c.step.new.self.shown (left_over _ _ _ some) shows;
    }

pub returns-in-Err-clause-advances : goal.returns-in-Err-clause-advances
returns-in-Err-clause-advances g c =
    let flat = c.args.program.now in
    let on = c.args.machine.now.setting in
    let m = c.args.machine.now.bytes in
    let n = c.args.budget in
    let some = rw (c.turn_next.ensures, c.turns-turns.ensures) at c.else-turn_next.either in
    let shows = c.in-Out.ensures.column in
    record {
      bytes = c.step.new.self.shown;
      next = c.step.new.self.bytes;
      grew = rw (c.shown.ensures) at c.in-Err.ensures.gained;
      rose = c.in-Err.ensures.cause.failed;
      goes = shows_on flat on n m c.step.new.self.bytes c.step.new.self.shown (left_over _ _ _ some) shows;
    }
