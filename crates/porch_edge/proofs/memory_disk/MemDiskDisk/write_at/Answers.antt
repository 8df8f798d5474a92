use Rattle.std.proofs.Common.{inl, inr, refl, ◌≢◌, ◌≡◌, ◌<◌, ◌≤◌, ◌+◌, ◌^◌, [], length, reverse, sym, subst, arith}
use Rattle.std.proofs.lemmas.Result.{on_ok_weaker}
use Rattle.std.proofs.lemmas.List.{nil_from_length}
use Rattle.std.proofs.lemmas.Bool.Decides.{nat_tests}
use Rattle.porch_edge.specs.Calls.{end_of_time}
use Rattle.porch_edge.specs.inside.Kept.{Kept}
use Rattle.porch_edge.proofs.Steps.{in_any}
use Rattle.porch_edge.proofs.MemorySteps.{none_ok, kept_or_not, stays_unchanged, past_logged, past_same, ticks}
use Rattle.porch_edge.proofs.Logged.{write_idle, write_step, kept_write}
use Rattle.porch_edge.proofs.memory_disk.MemDiskDisk.write_at.Goals as goal

pub returns-then-at-gt-LONGEST-clause-step : goal.returns-then-at-gt-LONGEST-clause-step
returns-then-at-gt-LONGEST-clause-step c = write_idle _ _ _ _ c.args.file c.args.at c.args.bytes.now c.refused.result (none_ok c.refused.result _ c.refused.ensures.failed) c.refused.ensures.stays c.refused.ensures.ticks

pub returns-then-at-gt-LONGEST-clause-cause : goal.returns-then-at-gt-LONGEST-clause-cause
returns-then-at-gt-LONGEST-clause-cause c = c.refused.ensures.cause

pub returns-then-at-gt-LONGEST-clause-obeys : goal.returns-then-at-gt-LONGEST-clause-obeys
returns-then-at-gt-LONGEST-clause-obeys c = c.refused.ensures.obeys _

pub returns-then-is_empty-clause-step : goal.returns-then-is_empty-clause-step
returns-then-is_empty-clause-step c =
    let empty : c.args.bytes.now ≡ [] = nil_from_length c.args.bytes.now (grind (arith, nat_tests)) in
    write_idle _ _ _ _ c.args.file c.args.at c.args.bytes.now c.noted.result (in_any c.noted.result empty) c.noted.ensures.stays c.noted.ensures.ticks

pub returns-then-is_empty-clause-cause : goal.returns-then-is_empty-clause-cause
returns-then-is_empty-clause-cause c = c.noted.ensures.cause

pub returns-in-Fails-clause-step : goal.returns-in-Fails-clause-step
returns-in-Fails-clause-step c = write_idle _ _ _ _ c.args.file c.args.at c.args.bytes.now _ tt
    (stays_unchanged c.args.self.now.files c.args.self.now.files c.args.self.now.calls.items c.args.self.now.calls.items c.args.self.now.clock c.begin-fate.new.clock refl refl (omega (arith, c.begin-fate.ensures.moment, c.begin-fate.ensures.within)) c.args.self.now.past)
    (ticks c.args.self.now.files c.args.self.now.files c.args.self.now.calls.items c.args.self.now.calls.items c.args.self.now.clock c.begin-fate.new.clock _ c.begin-fate.ensures.within c.begin-fate.ensures.moment (λ end. (refl, refl, refl)))

pub invariant_of-self-2 : goal.invariant_of-self-2
invariant_of-self-2 c =
    let some : 0 < length c.args.bytes.now = grind (arith, nat_tests) in
    let short : c.args.at + length c.args.bytes.now ≤ 2 ^ 62 = omega arith in
    record {
      kept = kept_or_not c.write-done.result c.write-done.ensures.ok c.write-done.ensures.files_err c.write-done.ensures.calls_err c.answer.ensures.done
          (λ l. kept_write c.args.at c.args.bytes.now c.args.self.now.kept some short l)
          (λ files calls none. subst (λ f. Kept f (reverse c.write-done.new.calls.items)) (sym files) (subst (λ l. Kept c.args.self.now.files (reverse l)) (sym calls) c.args.self.now.kept));
      past = kept_or_not c.write-done.result c.write-done.ensures.ok c.write-done.ensures.files_err c.write-done.ensures.calls_err c.answer.ensures.done
          (λ l. omega (arith, past_logged _ _ _ _ _ _ _ c.begin-fate.new.clock l))
          (λ files calls none. past_same _ _ c.args.self.now.clock c.begin-fate.new.clock calls (omega (arith, c.begin-fate.ensures.moment, c.begin-fate.ensures.within)) c.args.self.now.past);
    }

pub returns : goal.returns
returns c =
    let some : 0 < length c.args.bytes.now = grind (arith, nat_tests) in
    let short : c.args.at + length c.args.bytes.now ≤ 2 ^ 62 = omega arith in
    let goes : c.begin-fate.new.clock ≢ end_of_time = λ end. c.in_default.not-Fails (c.begin-fate.ensures.last end) in
    let within = c.begin-fate.ensures.within in
    let next = c.begin-fate.ensures.moment in
    record {
      within = in_any c.answer.result short;
      step = kept_or_not c.write-done.result c.write-done.ensures.ok c.write-done.ensures.files_err c.write-done.ensures.calls_err c.answer.ensures.done
          (λ l. write_step c.args.at c.args.bytes.now c.args.self.now.kept some short l c.args.self.now.clock c.answer.result within next goes)
          (λ files calls none. write_idle _ _ _ _ c.args.file c.args.at c.args.bytes.now c.answer.result (on_ok_weaker c.answer.result (λ no. absurd no) none)
          (stays_unchanged c.args.self.now.files c.write-done.new.files c.args.self.now.calls.items c.write-done.new.calls.items c.args.self.now.clock c.begin-fate.new.clock files calls (omega (arith, next, within)) c.args.self.now.past)
          (ticks c.args.self.now.files c.write-done.new.files c.args.self.now.calls.items c.write-done.new.calls.items c.args.self.now.clock c.begin-fate.new.clock c.answer.result within next (λ end. let no : ⊥ = goes end in absurd no)));
      cause = c.answer.ensures.cause;
      counted = c.answer.ensures.counted;
      obeys = record {
        plan = c.begin-fate.ensures.planned;
        fails = λ is. absurd (c.in_default.not-Fails (c.begin-fate.ensures.fails is));
        effect = kept_or_not c.write-done.result c.write-done.ensures.ok c.write-done.ensures.files_err c.write-done.ensures.calls_err c.answer.ensures.done (λ l. inl l.has)
            (λ files calls none. inr (record { files = files; calls = calls }));
        goes = on_ok_weaker c.answer.result c.begin-fate.ensures.goes c.answer.ensures.goes;
      };
    }
