-- Runs of calls on a gate's file.
use Rattle.std.proofs.Common.{◌≡◌, ℕ, ◌+◌, ◌<◌, List, [], ◌∷◌, length, take, sym, ◌∙◌, ap, subst, OnOk, Result, Ok, Err}
use Rattle.porch_edge.specs.declared.disk.FileName.{FileName}
use Rattle.porch_edge.specs.declared.failed.Failed.{Failed}
use Rattle.porch_edge.specs.Files.{Files, file_of, with_file, written}
use Rattle.porch_edge.specs.Disk.{DiskState, WhereTold, IsSettled, HasFront, ReadStep, WriteStep, CutStep, SyncStep, TornWrite, TouchesOnly, HasNow}
use Rattle.porch_edge.specs.OneFile.{own_bytes, with_twice}
use Rattle.porch_edge.specs.Told.{when_told, told_at, tells_on, silent_on, both_by, second_told}
use Rattle.porch_edge.specs.Runs.{Run, OnlyNow, run_begins, run_begins_settled, run_read, run_write, run_cut, run_sync, run_touches, touches_weaken, touches_join}
use Rattle.porch_gate.specs.declared.gate.Gate.{Gate}
use Rattle.porch_gate.specs.Gates.{filled_bytes, HasNoLetter, HasFirst, ReadsNow, ReadsSameFirst, SameFirst, IsOpen}
use Rattle.porch_gate.proofs.Bytes.{Filling, some_first, filling_write, filling_cut, filling_marred, filled_is}

-- what a law of a disk says of one state
abbrev pub ReadsLeave : DiskState → Type 0
ReadsLeave s = WhereTold s (λ fs. s.leaves fs)

-- the first calls on a file in which nothing is pending
module _ (s0 : DiskState) (file : FileName) (settled : IsSettled s0 file) (only : OnlyNow s0) (Q : List ℕ → List ℕ → Type 0) where
  -- the file has its old bytes, which have F
  abbrev Old : (List ℕ → Type 0) → List ℕ → List ℕ → Type 0
  Old F old x = F old × (x ≡ old)

  module _ (F : List ℕ → Type 0) (facts : WhereTold s0 (λ fs. F (file_of file fs))) (start : (old : List ℕ) → F old → Q old old) where
    begun : Run s0 s0 file (Old F) Q
    begun = run_begins_settled s0 file F Q start only settled facts

    still : (old x : List ℕ) → Old F old x → Q old x
    still old x same = subst (λ y. Q old y) (sym same.1) (start old same.0)

    pub first_read : (m : DiskState) (from : ℕ) (buf after : List ℕ) (n : Result ℕ Failed) → ReadStep s0 m file from buf after n → Run s0 m file (Old F) Q
    first_read m from buf after n read = run_read s0 s0 m file from buf after n (Old F) Q still begun read

    module _ (s : DiskState) (at : ℕ) (bytes : List ℕ) (r : Result (Unit {0}) Failed) (M : List ℕ → List ℕ → Type 0) (imp : (old x : List ℕ) → M old x → Q old x) where
      pub first_write : ((now old y : List ℕ) → F now → F old → TornWrite now at bytes old y → M old y) → WriteStep s0 s file at bytes r → Run s0 s file M Q
      first_write torn step = run_write s0 s0 s file at bytes r F (Old F) M Q facts
          (λ old now x y fact same w. torn now old y fact same.0 (subst (λ z. TornWrite now at bytes z y) same.1 w)) imp begun step

      pub read_and_write : (m : DiskState) (from : ℕ) (buf after : List ℕ) (n : Result ℕ Failed) → ((now old y : List ℕ) → F old → TornWrite now at bytes old y → M old y) → ReadStep s0 m file from buf after n
          → WriteStep m s file at bytes r → Run s0 s file M Q
      read_and_write m from buf after n torn read step = run_write s0 m s file at bytes r (λ _. Unit {0}) (Old F) M Q (when_told m.files _ (λ fs is. tt))
          (λ old now x y fact same w. torn now old y same.0 (subst (λ z. TornWrite now at bytes z y) same.1 w)) imp (first_read m from buf after n read) step

-- a run behind the first byte of a file
module _ (s0 : DiskState) (file : FileName) (only : OnlyNow s0) (some : HasFirst s0 file) (front : HasFront s0 file) where
  fronted : Run s0 s0 file Filling SameFirst
  fronted = run_begins s0 file Filling SameFirst (λ old x m. m.1) only (when_told s0.files _ (λ fs is c left.
      let long = told_at s0.files fs (λ f. 0 < length (file_of file f)) is some in
      let same = told_at s0.files fs (λ f. (c : Files) → s0.leaves c → take 1 (file_of file c) ≡ take 1 (file_of file f)) is front c left in
      (some_first (file_of file fs) (file_of file c) long same, same)))

  pub behind_write : (s1 : DiskState) (at : ℕ) (bytes : List ℕ) (r : Result (Unit {0}) Failed) → 0 < at → WriteStep s0 s1 file at bytes r → TouchesOnly s0 s1 file SameFirst
  behind_write s1 at bytes r more step = run_touches s0 s1 file Filling SameFirst (λ old x m. m.1)
      (run_write s0 s0 s1 file at bytes r (λ now. 0 < length now) Filling Filling SameFirst some (λ old now x y long m w. filling_write at bytes now old x y more long m w) (λ old x m. m.1) fronted step)

  module _ (s1 : DiskState) (len : ℕ) (r : Result (Unit {0}) Failed) (more : 0 < len) (step : CutStep s0 s1 file len r) where
    cut_run : Run s0 s1 file Filling SameFirst
    cut_run = run_cut s0 s0 s1 file len r Filling Filling SameFirst (λ old x y m s. filling_cut old x y len more m s) (λ old x y m s. filling_marred old x y len more m s) (λ old x m. m.1) fronted step

    pub behind_cut : TouchesOnly s0 s1 file SameFirst
    behind_cut = run_touches s0 s1 file Filling SameFirst (λ old x m. m.1) cut_run

    pub behind_seal : (s2 : DiskState) (q : Result (Unit {0}) Failed) → SyncStep s1 s2 file q → TouchesOnly s0 s2 file SameFirst
    behind_seal s2 q sync = run_touches s0 s2 file Filling SameFirst (λ old x m. m.1) (run_sync s0 s1 s2 file q Filling SameFirst (λ old x m. m.1) cut_run sync)

-- the first byte after calls that leave it
module _ (s0 s1 : DiskState) (file : FileName) (reads : ReadsLeave s1) (run : TouchesOnly s0 s1 file SameFirst) where
  pub reads_first : ReadsSameFirst s0 s1 file
  reads_first = both_by s0.files s1.files _ (λ none. silent_on s0.files s1.files _ none run) (λ fs is.
      let a = tells_on s0.files s1.files _ fs is run in
      (a.0, a.1, (a.2.now a.0 (told_at s1.files a.0 (λ f. s1.leaves f) a.1 reads)).2.bytes))

  pub front_stays : HasFront s1 file
  front_stays = second_told s0.files s1.files (λ f. (c : Files) → s1.leaves c → take 1 (file_of file c) ≡ take 1 (file_of file f)) (both_by s0.files s1.files _ (λ none. silent_on s0.files s1.files _ none run) (λ fs is.
      let a = tells_on s0.files s1.files _ fs is run in
      let here : take 1 (file_of file a.0) ≡ take 1 (file_of file fs) = (a.2.now a.0 (told_at s1.files a.0 (λ f. s1.leaves f) a.1 reads)).2.bytes in
      (a.0, a.1, λ c left. (a.2.now c left).2.bytes ∙ sym here)))

  pub some_stays : HasFirst s0 file → HasFirst s1 file
  some_stays some = second_told s0.files s1.files (λ f. 0 < length (file_of file f)) (both_by s0.files s1.files _ (λ none. silent_on s0.files s1.files _ none run) (λ fs is.
      let a = tells_on s0.files s1.files _ fs is run in
      let here : take 1 (file_of file a.0) ≡ take 1 (file_of file fs) = (a.2.now a.0 (told_at s1.files a.0 (λ f. s1.leaves f) a.1 reads)).2.bytes in
      (a.0, a.1, some_first (file_of file fs) (file_of file a.0) (told_at s0.files fs (λ f. 0 < length (file_of file f)) is some) here)))

  -- two such runs are one
  pub firsts_join : (s2 : DiskState) → TouchesOnly s1 s2 file SameFirst → TouchesOnly s0 s2 file SameFirst
  firsts_join s2 more = both_by s0.files s2.files _ (λ none. silent_on s1.files s2.files _ (silent_on s0.files s1.files _ none run) more) (λ fs is.
      let w = take 1 (file_of file fs) in
      let F : List ℕ → Type 0 = λ old. take 1 old ≡ w in
      let W : List ℕ → List ℕ → Type 0 = λ _ x. take 1 x ≡ w in
      let here : WhereTold s0 (λ f. F (file_of file f)) = when_told s0.files _ (λ f told. let same : f ≡ fs = cc in ap (λ (h : Files). take 1 (file_of file h)) same) in
      let one = touches_weaken s0 s1 file F SameFirst W here (λ old x f q. q ∙ f) run in
      let there : WhereTold s1 (λ f. F (file_of file f)) = when_told s1.files _ (λ f told.
      let a = tells_on s0.files s1.files _ fs is run in
      let same : a.0 ≡ f = cc in
      subst (λ (h : Files). take 1 (file_of file h) ≡ w) same (a.2.now a.0 (told_at s1.files a.0 (λ h. s1.leaves h) a.1 reads)).2.bytes) in
      let two = touches_weaken s1 s2 file F SameFirst W there (λ old x f q. q ∙ f) more in
      let all = touches_join s0 s1 s2 file W (λ x. take 1 x ≡ w) (λ old x r. r) one two in
      tells_on s0.files s2.files _ fs is (touches_weaken s0 s2 file F W SameFirst here (λ old x f q. q ∙ sym f) all))

-- a file that nothing is pending in has its first byte in each content
pub settled_front : (s : DiskState) (file : FileName) → IsSettled s file → HasFront s file
settled_front s file settled = when_told s.files _ (λ fs is c left. ap (λ (l : List ℕ). take 1 l) (told_at s.files fs (λ f. (c : Files) → s.leaves c → file_of file c ≡ file_of file f) is settled c left))

-- what reads give after a write
pub wrote_now : (s0 s1 : DiskState) (file : FileName) (at : ℕ) (bytes : List ℕ) (r : Result (Unit {0}) Failed) → WriteStep s0 s1 file at bytes r → OnOk r (ReadsNow s0 s1 file (λ old. written old at bytes))
wrote_now s0 s1 file at bytes (Err e) step = tt
wrote_now s0 s1 file at bytes (Ok x) step = both_by s0.files s1.files _ (λ none. silent_on s0.files s1.files _ none step) (λ fs is.
    let a = tells_on s0.files s1.files _ fs is step in
    (a.0, a.1, a.2.0.done))

-- and after a cut and a sync
pub sealed_now : (s0 s1 s2 : DiskState) (file : FileName) (len : ℕ) (w : Unit {0}) (r : Result (Unit {0}) Failed) → CutStep s0 s1 file len (Ok w) → SyncStep s1 s2 file r → OnOk r (HasNow s0 s2 file (take len))
sealed_now s0 s1 s2 file len w (Err e) cut sync = tt
sealed_now s0 s1 s2 file len w (Ok x) cut sync =
    both_by s0.files s2.files _ (λ none. silent_on s1.files s2.files _ (silent_on s0.files s1.files _ none cut) sync) (λ fs is.
    let a = tells_on s0.files s1.files _ fs is cut in
    let b = tells_on s1.files s2.files _ a.0 a.1 sync in
    (b.0, b.1, (b.2.0.same ∙ a.2.0.done, λ f left. b.2.1 f left ∙ ap (λ (g : Files). file_of file g) (sym b.2.0.same))))

-- what a file has that was filled
pub fill_now : (s0 s1 s2 : DiskState) (file : FileName) (bytes : List ℕ) (r : Result (Unit {0}) Failed) → HasFirst s0 file → ReadsNow s0 s1 file (λ old. written old 1 bytes) → OnOk r (HasNow s1 s2 file (take (1 + length bytes)))
    → OnOk r (HasNow s0 s2 file (filled_bytes bytes))
fill_now s0 s1 s2 file bytes (Err e) some wrote sealed = tt
fill_now s0 s1 s2 file bytes (Ok x) some wrote sealed =
    both_by s0.files s2.files _ (λ none. silent_on s1.files s2.files _ (silent_on s0.files s1.files _ none wrote) sealed) (λ fs is.
    let a = tells_on s0.files s1.files _ fs is wrote in
    let b = tells_on s1.files s2.files _ a.0 a.1 sealed in
    let old = file_of file fs in
    let n = 1 + length bytes in
    let long : 0 < length old = told_at s0.files fs (λ f. 0 < length (file_of file f)) is some in
    let bytes_are : file_of file a.0 ≡ written old 1 bytes = ap (λ (f : Files). file_of file f) a.2 ∙ own_bytes file fs (written old 1 bytes) in
    let two : b.0 ≡ with_file file fs (filled_bytes bytes old) =
    b.2.0 ∙ ap (λ (l : List ℕ). with_file file a.0 (take n l)) bytes_are ∙ ap (λ (f : Files). with_file file f (take n (written old 1 bytes))) a.2
    ∙ with_twice file fs (written old 1 bytes) (take n (written old 1 bytes)) ∙ ap (λ (l : List ℕ). with_file file fs l) (filled_is old bytes long) in
    (b.0, b.1, (two, b.2.1)))

-- where the first byte stays and is no letter, the file is closed all along
pub stays_closed : (s0 s : DiskState) (file : FileName) (gate : Gate) → HasNoLetter s0 file gate → TouchesOnly s0 s file SameFirst → TouchesOnly s0 s file (λ _ c. ¬ IsOpen gate c)
stays_closed s0 s file gate none run = touches_weaken s0 s file (λ old. ¬ (take 1 old ≡ gate.letter ∷ [])) SameFirst (λ _ c. ¬ IsOpen gate c) none (λ old x no same is. no (sym same ∙ is.letter)) run
