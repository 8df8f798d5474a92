use Rattle.std.proofs.Common.{◌-◌, Ok, arith, rules, sym, subst}
use Rattle.std.specs.Int.{w32}
use Rattle.std.proofs.lemmas.Int.{to_z-of_z}
use Rattle.porch_objects.specs.Meaning.{without_input}
use Rattle.porch_abstract.specs.declared.phase.AStep.{AStep}
use Rattle.porch_abstract.specs.declared.phase.AStep.TheVariants as astep
use Rattle.porch_abstract.specs.Held.{Answers}
use Rattle.porch_abstract.specs.whole.Machine.{next}
use Rattle.porch_steps.specs.Ran.{Ran}
use Rattle.porch_steps.specs.inside.Kept.{state_of}
use Rattle.porch_steps.proofs.Quickly.{going_on, going_one, ran_all, ran_ended, ran_met, ran_refused}
use Rattle.porch_steps.proofs.run.Run.run.Goals as goal

pub returns-then-left-eq0 : goal.returns-then-left-eq0
returns-then-left-eq0 c =
    let flat = c.args.flat.now in
    let under = without_input c.args.widths in
    let start = state_of c.args.self.now in
    let here = state_of c.go_quickly-left.new.self in
    let left = c.loop-left.left - c.go_quickly-left.result in
    let going = going_on flat under start (state_of c.loop-left.self) here c.args.most c.loop-left.left c.go_quickly-left.result left c.loop-left.invariant
    (c.go_quickly-left.ensures.went flat under c.requires.prepared) c.go_quickly-left.ensures.few (omega (arith, c.go_quickly-left.ensures.few)) in
    record { ran = ran_all flat under start here c.args.most left going (omega (arith, c.if-left-eq0.true)) }

pub returns-in-Err : goal.returns-in-Err
returns-in-Err c =
    let flat = c.args.flat.now in
    let under = without_input c.args.widths in
    let start = state_of c.args.self.now in
    let here = state_of c.go_quickly-left.new.self in
    let left = c.loop-left.left - c.go_quickly-left.result in
    let going = going_on flat under start (state_of c.loop-left.self) here c.args.most c.loop-left.left c.go_quickly-left.result left c.loop-left.invariant
    (c.go_quickly-left.ensures.went flat under c.requires.prepared) c.go_quickly-left.ensures.few (omega (arith, c.go_quickly-left.ensures.few)) in
    record {
      ran = ran_refused flat under start here (state_of c.take_next.new.self) c.args.most left _ going (omega (arith, c.if-left-eq0.false)) c.in-Err.ensures.steps;
    }

pub returns-in-Ended : goal.returns-in-Ended
returns-in-Ended c =
    let flat = c.args.flat.now in
    let under = without_input c.args.widths in
    let start = state_of c.args.self.now in
    let here = state_of c.go_quickly-left.new.self in
    let left = c.loop-left.left - c.go_quickly-left.result in
    let going = going_on flat under start (state_of c.loop-left.self) here c.args.most c.loop-left.left c.go_quickly-left.result left c.loop-left.invariant
    (c.go_quickly-left.ensures.went flat under c.requires.prepared) c.go_quickly-left.ensures.few (omega (arith, c.go_quickly-left.ensures.few)) in
    let answer =
    subst (λ (a : AStep). Answers (next flat under here) here (state_of c.take_next.new.self) (Ok a)) c.in-Ended.is c.in-Ok.ensures.steps in
    record {
      ran = subst (λ z. Ran flat under start (state_of c.take_next.new.self) c.args.most (Ok (astep.Ended z))) (sym (to_z-of_z w32 c.in-Ended.value (search rules)))
          (ran_ended flat under start here (state_of c.take_next.new.self) c.args.most left c.in-Ended.value going (omega (arith, c.if-left-eq0.false)) answer);
    }

pub returns-in-Act : goal.returns-in-Act
returns-in-Act c =
    let flat = c.args.flat.now in
    let under = without_input c.args.widths in
    let start = state_of c.args.self.now in
    let here = state_of c.go_quickly-left.new.self in
    let left = c.loop-left.left - c.go_quickly-left.result in
    let going = going_on flat under start (state_of c.loop-left.self) here c.args.most c.loop-left.left c.go_quickly-left.result left c.loop-left.invariant
    (c.go_quickly-left.ensures.went flat under c.requires.prepared) c.go_quickly-left.ensures.few (omega (arith, c.go_quickly-left.ensures.few)) in
    let answer =
    subst (λ (a : AStep). Answers (next flat under here) here (state_of c.take_next.new.self) (Ok a)) c.in-Act.is c.in-Ok.ensures.steps in
    record { ran = ran_met flat under start here (state_of c.take_next.new.self) c.args.most left _ going (omega (arith, c.if-left-eq0.false)) answer }

pub loop-left-preserved : goal.loop-left-preserved
loop-left-preserved c =
    let flat = c.args.flat.now in
    let under = without_input c.args.widths in
    let start = state_of c.args.self.now in
    let here = state_of c.go_quickly-left.new.self in
    let left = c.loop-left.left - c.go_quickly-left.result in
    let going = going_on flat under start (state_of c.loop-left.self) here c.args.most c.loop-left.left c.go_quickly-left.result left c.loop-left.invariant
    (c.go_quickly-left.ensures.went flat under c.requires.prepared) c.go_quickly-left.ensures.few (omega (arith, c.go_quickly-left.ensures.few)) in
    let answer =
    subst (λ (a : AStep). Answers (next flat under here) here (state_of c.take_next.new.self) (Ok a)) c.in-Went.is c.in-Ok.ensures.steps in
    going_one flat under start here (state_of c.take_next.new.self) c.args.most left (left - 1) going answer (omega (arith, c.if-left-eq0.false))
