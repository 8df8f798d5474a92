-- Runs of calls on the output's file, told or not.
use Rattle.std.proofs.Common.{◌≡◌, ⊎_elim, ℕ, ◌+◌, List, ◌++◌, length, take, sym, ◌∙◌, ap, arith, Result, [], append_assoc, length-append}
use Rattle.std.proofs.lemmas.List.{append-nil}
use Rattle.std.specs.declared.result.Result.TheVariants.{Ok}
use Rattle.porch_edge.specs.declared.disk.FileName.TheVariants.{Output as OutputFile}
use Rattle.porch_edge.specs.declared.failed.Failed.{Failed}
use Rattle.porch_edge.specs.Files.{Files}
use Rattle.porch_edge.specs.Disk.{DiskState, Moment, since, WhereTold, BothTell, ButFor, IsSettled, WriteStep, CutStep, SyncStep}
use Rattle.porch_edge.specs.Told.{when_told, told_at, tells_on, silent_on, both_by, second_told}
use Rattle.porch_edge.specs.Runs.{OnlyNow, since_before, run_begins, run_write, run_cut, run_sync, run_touches, touches_run}
use Rattle.porch_output.specs.Outputs.{BeginsWith, LeavesBeginning, KeepsBeginning, BeginsSince}
use Rattle.porch_output.proofs.Begins.{begins_itself, torn, shortened, marred, fewer, appended}

-- what the laws of a disk say of one state
abbrev pub CountsNow : DiskState → Type 0
CountsNow s = WhereTold s (λ _. (c : Files) → s.leaves c → s.at s.moment c)

abbrev pub ReadsLeave : DiskState → Type 0
ReadsLeave s = WhereTold s (λ fs. s.leaves fs)

-- the file begins with these bytes, whatever it had
abbrev Begins : List ℕ → List ℕ → List ℕ → Type 0
Begins kept old x = BeginsWith kept x

-- no call yet
pub starts : (s : DiskState) (kept : List ℕ) → OnlyNow s → LeavesBeginning kept s → KeepsBeginning kept s s
starts s kept only leaves = run_touches s s OutputFile (Begins kept) (Begins kept) (λ old x n. n) (run_begins s OutputFile (Begins kept) (Begins kept) (λ old x n. n) only leaves)

-- a write at the end
pub writes : (s0 s t : DiskState) (kept bytes : List ℕ) (at : ℕ) (r : Result (Unit {0}) Failed) → ReadsLeave s → WhereTold s (λ fs. at ≡ length fs.output) → WriteStep s t OutputFile at bytes r → KeepsBeginning kept s0 s
    → KeepsBeginning kept s0 t
writes s0 s t kept bytes at r reads ends write run =
    let F : List ℕ → Type 0 = λ now. (at ≡ length now) × BeginsWith kept now in
    let facts : WhereTold s (λ gs. F gs.output) = second_told s0.files s.files (λ gs. F gs.output) (both_by s0.files s.files _ (λ none. silent_on s0.files s.files _ none run) (λ fs is.
    let a = tells_on s0.files s.files _ fs is run in
    let end : at ≡ length a.0.output = told_at s.files a.0 (λ f. at ≡ length f.output) a.1 ends in
    let there : BeginsWith kept a.0.output = (a.2.now a.0 (told_at s.files a.0 (λ f. s.leaves f) a.1 reads)).2.bytes in
    (a.0, a.1, (end, there)))) in
    run_touches s0 t OutputFile (Begins kept) (Begins kept) (λ old x n. n)
    (run_write s0 s t OutputFile at bytes r F (Begins kept) (Begins kept) (Begins kept) facts (λ old now x y fact n w. torn kept now x y at fact.0 fact.1 w.before n) (λ old x n. n)
    (touches_run s0 s OutputFile (Begins kept) run) write)

-- a sync
pub syncs : (s0 s t : DiskState) (kept : List ℕ) (r : Result (Unit {0}) Failed) → SyncStep s t OutputFile r → KeepsBeginning kept s0 s → KeepsBeginning kept s0 t
syncs s0 s t kept r sync run = run_touches s0 t OutputFile (Begins kept) (Begins kept) (λ old x n. n)
    (run_sync s0 s t OutputFile r (Begins kept) (Begins kept) (λ old x n. n) (touches_run s0 s OutputFile (Begins kept) run) sync)

-- a first cut
pub cuts : (s t : DiskState) (kept : List ℕ) (len : ℕ) (r : Result (Unit {0}) Failed) → OnlyNow s → LeavesBeginning kept s → CutStep s t OutputFile len r → KeepsBeginning (take len kept) s t
cuts s t kept len r only leaves cut =
    let N = Begins kept in
    let M = Begins (take len kept) in
    run_touches s t OutputFile M M (λ old x m. m)
    (run_cut s s t OutputFile len r N M M (λ old x y n short. shortened len kept x y n short) (λ old x y n mar. marred len kept x y n mar) (λ old x m. m)
    (run_begins s OutputFile N M (λ old x n. fewer len kept x n) only leaves) cut)

-- what has begun so since a moment does so all along, by what each call keeps
pub lasts : (s t : DiskState) (kept less : List ℕ) (mark : Moment) → CountsNow s → ((x : List ℕ) → BeginsWith kept x → BeginsWith less x) → (LeavesBeginning kept s → KeepsBeginning less s t)
    → WhereTold s (λ _. BeginsSince kept mark s) → WhereTold t (λ _. BeginsSince less mark t)
lasts s t kept less mark counts imp keeps since =
    let leaves : LeavesBeginning kept s = when_told s.files _ (λ fs is.
    let so_far = told_at s.files fs (λ _. BeginsSince kept mark s) is since in
    let now = told_at s.files fs (λ _. (c : Files) → s.leaves c → s.at s.moment c) is counts in
    λ c left. so_far.each c (s.moment, so_far.by, now c left)) in
    let run = keeps leaves in
    second_told s.files t.files (λ _. BeginsSince less mark t) (both_by s.files t.files _ (λ none. silent_on s.files t.files _ none run) (λ fs is.
    let so_far = told_at s.files fs (λ _. BeginsSince kept mark s) is since in
    let a = tells_on s.files t.files _ fs is run in (
      a.0,
      a.1,
      record {
        by = λ clock. let one = so_far.by clock in let two = a.2.moments.time.later clock in omega (arith, one, two);
        each = λ c left. ⊎_elim (λ past. imp c.output (so_far.each c past)) (λ here. here.2.bytes) (since_before s t (λ x. ButFor OutputFile s.leaves (λ bytes. BeginsWith less bytes) x) a.2.moments mark c left);
      },
    )))

-- from a moment on at which nothing is pending
pub from_here : (t : DiskState) → OnlyNow t → IsSettled t OutputFile → WhereTold t (λ gs. BeginsSince gs.output t.moment t)
from_here t only settled = when_told t.files _ (λ gs is.
    let now = told_at t.files gs (λ _. (c : Files) → since t t.moment c → t.leaves c) is only in
    let there = told_at t.files gs (λ f. (c : Files) → t.leaves c → c.output ≡ f.output) is settled in
    record { by = λ clock. omega arith; each = λ c left. begins_itself gs.output c.output (there c (now c left)) })

-- what reads give after a write at the end
pub grows : (s t : DiskState) (bytes : List ℕ) (at : ℕ) (x : Unit {0}) → WhereTold s (λ fs. at ≡ length fs.output) → WriteStep s t OutputFile at bytes (Ok x) → BothTell s.files t.files (λ fs gs. gs.output ≡ fs.output ++ bytes)
grows s t bytes at x ends write = both_by s.files t.files _ (λ none. silent_on s.files t.files _ none write) (λ fs is.
    let a = tells_on s.files t.files _ fs is write in
    let end : at ≡ length fs.output = told_at s.files fs (λ f. at ≡ length f.output) is ends in
    (a.0, a.1, ap (λ (f : Files). f.output) a.2.0.done ∙ appended at fs.output bytes end))

pub ends_later : (s t : DiskState) (bytes : List ℕ) (at later : ℕ) → later ≡ at + length bytes → WhereTold s (λ fs. at ≡ length fs.output) → BothTell s.files t.files (λ fs gs. gs.output ≡ fs.output ++ bytes)
    → WhereTold t (λ gs. later ≡ length gs.output)
ends_later s t bytes at later is ends grown = second_told s.files t.files (λ gs. later ≡ length gs.output) (both_by s.files t.files _ (λ none. silent_on s.files t.files _ none grown) (λ fs told.
    let a = tells_on s.files t.files _ fs told grown in
    let end : at ≡ length fs.output = told_at s.files fs (λ f. at ≡ length f.output) told ends in
    (a.0, a.1, omega (arith, is, end, ap length a.2, length-append fs.output bytes))))

-- texts that grow twice
pub text_joins : (s t u : DiskState) (T U V : Files → List ℕ) (first second all : List ℕ) → all ≡ first ++ second → BothTell s.files t.files (λ fs gs. U gs ≡ T fs ++ first) → BothTell t.files u.files (λ gs hs. V hs ≡ U gs ++ second)
    → BothTell s.files u.files (λ fs hs. V hs ≡ T fs ++ all)
text_joins s t u T U V first second all is one two = both_by s.files u.files _ (λ none. silent_on t.files u.files _ (silent_on s.files t.files _ none one) two) (λ fs told.
    let a = tells_on s.files t.files _ fs told one in
    let b = tells_on t.files u.files _ a.0 a.1 two in
    (b.0, b.1, b.2 ∙ ap (λ (l : List ℕ). l ++ second) a.2 ∙ append_assoc (T fs) first second ∙ ap (λ (l : List ℕ). T fs ++ l) (sym is)))

pub text_starts : (s : DiskState) (T : Files → List ℕ) (none : List ℕ) → none ≡ [] → BothTell s.files s.files (λ fs gs. T gs ≡ T fs ++ none)
text_starts s T none is = both_by s.files s.files _ (λ silent. silent) (λ fs told. (fs, told, sym (append-nil (T fs)) ∙ ap (λ (l : List ℕ). T fs ++ l) (sym is)))
