use Rattle.std.proofs.Common.{inl, inr, refl, ◌≢◌, ◌<◌, ◌≤◌, length, reverse, sym, subst, arith, rules}
use Rattle.std.proofs.lemmas.Result.{on_ok_weaker}
use Rattle.porch_edge.specs.Files.{file_of}
use Rattle.porch_edge.specs.Calls.{end_of_time}
use Rattle.porch_edge.specs.inside.Kept.{Kept}
use Rattle.porch_edge.proofs.Steps.{in_any}
use Rattle.porch_edge.proofs.MemorySteps.{none_ok, kept_or_not, stays_unchanged, past_logged, past_same, ticks}
use Rattle.porch_edge.proofs.Logged.{cut_idle, cut_step, kept_cut}
use Rattle.porch_edge.proofs.memory_disk.MemDiskDisk.cut.Goals as goal

pub returns-then-len-gt-LONGEST-clause-step : goal.returns-then-len-gt-LONGEST-clause-step
returns-then-len-gt-LONGEST-clause-step c = cut_idle _ _ _ _ c.args.file c.args.len c.refused.result (none_ok c.refused.result _ c.refused.ensures.failed) c.refused.ensures.stays c.refused.ensures.ticks

pub returns-then-len-gt-LONGEST-clause-cause : goal.returns-then-len-gt-LONGEST-clause-cause
returns-then-len-gt-LONGEST-clause-cause c = c.refused.ensures.cause

pub returns-then-len-gt-LONGEST-clause-obeys : goal.returns-then-len-gt-LONGEST-clause-obeys
returns-then-len-gt-LONGEST-clause-obeys c = c.refused.ensures.obeys _

pub returns-then-get-len-clause-step : goal.returns-then-get-len-clause-step
returns-then-get-len-clause-step c =
    let le : length (file_of c.args.file c.args.self.now.files) ≤ c.args.len = search rules in
    cut_idle _ _ _ _ c.args.file c.args.len c.noted.result (in_any c.noted.result le) c.noted.ensures.stays c.noted.ensures.ticks

pub returns-then-get-len-clause-cause : goal.returns-then-get-len-clause-cause
returns-then-get-len-clause-cause c = c.noted.ensures.cause

pub returns-in-Fails-clause-step : goal.returns-in-Fails-clause-step
returns-in-Fails-clause-step c = cut_idle _ _ _ _ c.args.file c.args.len _ tt
    (stays_unchanged c.args.self.now.files c.args.self.now.files c.args.self.now.calls.items c.args.self.now.calls.items c.args.self.now.clock c.begin-fate.new.clock refl refl (omega (arith, c.begin-fate.ensures.moment, c.begin-fate.ensures.within)) c.args.self.now.past)
    (ticks c.args.self.now.files c.args.self.now.files c.args.self.now.calls.items c.args.self.now.calls.items c.args.self.now.clock c.begin-fate.new.clock _ c.begin-fate.ensures.within c.begin-fate.ensures.moment (λ end. (refl, refl, refl)))

pub invariant_of-self-2 : goal.invariant_of-self-2
invariant_of-self-2 c =
    let longer : c.args.len < length (file_of c.args.file c.args.self.now.files) = grind (arith, c.get.ensures) in
    record {
      kept = kept_or_not c.cut-done.result c.cut-done.ensures.ok c.cut-done.ensures.files_err c.cut-done.ensures.calls_err c.answer.ensures.done
          (λ l. kept_cut c.args.len c.args.self.now.kept longer l)
          (λ files calls none. subst (λ f. Kept f (reverse c.cut-done.new.calls.items)) (sym files) (subst (λ l. Kept c.args.self.now.files (reverse l)) (sym calls) c.args.self.now.kept));
      past = kept_or_not c.cut-done.result c.cut-done.ensures.ok c.cut-done.ensures.files_err c.cut-done.ensures.calls_err c.answer.ensures.done
          (λ l. omega (arith, past_logged _ _ _ _ _ _ _ c.begin-fate.new.clock l))
          (λ files calls none. past_same _ _ c.args.self.now.clock c.begin-fate.new.clock calls (omega (arith, c.begin-fate.ensures.moment, c.begin-fate.ensures.within)) c.args.self.now.past);
    }

pub returns : goal.returns
returns c =
    let longer : c.args.len < length (file_of c.args.file c.args.self.now.files) = grind (arith, c.get.ensures) in
    let goes : c.begin-fate.new.clock ≢ end_of_time = λ end. c.in_default.not-Fails (c.begin-fate.ensures.last end) in
    let within = c.begin-fate.ensures.within in
    let next = c.begin-fate.ensures.moment in
    record {
      within = in_any c.answer.result (omega arith);
      step = kept_or_not c.cut-done.result c.cut-done.ensures.ok c.cut-done.ensures.files_err c.cut-done.ensures.calls_err c.answer.ensures.done
          (λ l. cut_step c.args.len c.args.self.now.kept longer l c.args.self.now.clock c.answer.result within next goes)
          (λ files calls none. cut_idle _ _ _ _ c.args.file c.args.len c.answer.result (on_ok_weaker c.answer.result (λ no. absurd no) none)
          (stays_unchanged c.args.self.now.files c.cut-done.new.files c.args.self.now.calls.items c.cut-done.new.calls.items c.args.self.now.clock c.begin-fate.new.clock files calls (omega (arith, next, within)) c.args.self.now.past)
          (ticks c.args.self.now.files c.cut-done.new.files c.args.self.now.calls.items c.cut-done.new.calls.items c.args.self.now.clock c.begin-fate.new.clock c.answer.result within next (λ end. let no : ⊥ = goes end in absurd no)));
      cause = c.answer.ensures.cause;
      counted = c.answer.ensures.counted;
      obeys = record {
        plan = c.begin-fate.ensures.planned;
        fails = λ is. absurd (c.in_default.not-Fails (c.begin-fate.ensures.fails is));
        effect = kept_or_not c.cut-done.result c.cut-done.ensures.ok c.cut-done.ensures.files_err c.cut-done.ensures.calls_err c.answer.ensures.done (λ l. inl l.has)
            (λ files calls none. inr (record { files = files; calls = calls }));
        goes = on_ok_weaker c.answer.result c.begin-fate.ensures.goes c.answer.ensures.goes;
      };
    }
