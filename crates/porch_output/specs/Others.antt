-- What stays of an output over calls on other files. Each fact is proved here; the laws in src/laws.rt say it.
use Rattle.std.specs.Prelude.{◌≡◌, ℕ, List, length}
use Rattle.std.proofs.Common.{⊎_elim, sym, subst}
use Rattle.std.proofs.Math.Nat.{le_trans}
use Rattle.porch_edge.specs.declared.disk.FileName.TheVariants.{Output as OutputFile}
use Rattle.porch_edge.specs.Files.{Files}
use Rattle.porch_edge.specs.Disk.{DiskState, Moment, WhereTold, LeavesOf, SparesOne}
use Rattle.porch_edge.specs.Told.{told_at, tells_on, silent_on, both_by, second_told}
use Rattle.porch_edge.specs.Runs.{since_before}
use Rattle.porch_edge.specs.Others.{spares_reads, spares_leaves}
use Rattle.porch_output.specs.Outputs.{IsReady, BeginsWith, LeavesBeginning, BeginsSince}
use Rattle.porch_output.specs.declared.output.Output.{Output}

-- it knows where its file ends
pub ready_kept : (output : Output) (s t : DiskState) → IsReady output s → SparesOne s t OutputFile → IsReady output t
ready_kept output s t ready run = spares_reads s t OutputFile (λ bytes. output.written ≡ length bytes) ready run

-- a crash leaves a file that begins so
pub beginning_kept : (kept : List ℕ) (s t : DiskState) → LeavesBeginning kept s → SparesOne s t OutputFile → LeavesBeginning kept t
beginning_kept kept s t leaves run = spares_leaves s t OutputFile (λ _ bytes. BeginsWith kept bytes) leaves run

-- and so it has been since a moment
pub begins_kept : (kept : List ℕ) (mark : Moment) (s t : DiskState) → WhereTold s (λ _. (c : Files) → s.leaves c → s.at s.moment c) → WhereTold s (λ _. BeginsSince kept mark s) → SparesOne s t OutputFile → WhereTold t (λ _. BeginsSince kept mark t)
begins_kept kept mark s t counts begins run = second_told s.files t.files (λ _. BeginsSince kept mark t) (both_by s.files t.files _ (λ none. silent_on s.files t.files _ none run) (λ fs is.
    let u = tells_on s.files t.files _ fs is run in
    let so_far = told_at s.files fs (λ _. BeginsSince kept mark s) is begins in
    let now = told_at s.files fs (λ _. (c : Files) → s.leaves c → s.at s.moment c) is counts in (
      u.0,
      u.1,
      record {
        by = λ clock. le_trans (so_far.by clock) (u.2.moments.time.later clock);
        each = λ c left. ⊎_elim (so_far.each c) (λ here. subst (λ (x : List ℕ). BeginsWith kept x) (sym here.2) (so_far.each here.0 (s.moment, so_far.by, now here.0 here.1)))
            (since_before s t (LeavesOf OutputFile s.leaves) u.2.moments mark c left);
      },
    )))
