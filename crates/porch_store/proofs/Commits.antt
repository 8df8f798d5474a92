-- What a commit leaves, over the contracts of the calls on a gate.
use Rattle.std.proofs.Common.{◌≡◌, ◌≢◌, ◌⊎◌, ⊎_elim, inl, inr, ℕ, ◌+◌, ◌<◌, ◌≤◌, List, [], ◌∷◌, ◌++◌, length, take, refl, sym, ◌∙◌, ap, subst, arith}
use Rattle.std.specs.Prelude.{Result, OnOk}
use Rattle.std.specs.declared.result.Result.TheVariants.{Ok, Err}
use Rattle.std.specs.declared.option.Option.{Option}
use Rattle.std.specs.declared.option.Option.TheVariants.{Some}
use Rattle.porch_edge.specs.declared.disk.FileName.{FileName}
use Rattle.porch_edge.specs.declared.failed.Failed.{Failed}
use Rattle.porch_edge.specs.Files.{Files, file_of, with_file, written}
use Rattle.porch_edge.specs.Disk.{DiskState, WhereTold, BothTell, ButFor, IsSettled, HasFront, TouchesOnly, HasNow}
use Rattle.porch_edge.specs.OneFile.{own_bytes, with_twice}
use Rattle.porch_edge.specs.Told.{when_told, told_at, tells_on, silent_on, both_by, second_told}
use Rattle.porch_edge.specs.Runs.{leaves_weakens, leaves_joins, touches_weaken, touches_join}
use Rattle.porch_gate.specs.declared.gate.Gate.{Gate}
use Rattle.porch_gate.specs.Gates as gates
use Rattle.porch_gate.specs.Gates.{closed_bytes, opened_bytes, ReadsNow, ReadsSameFirst, OldOrClosed, WholeOrClosed}
use Rattle.porch_store.specs.declared.number.TheConstants.{CHECKPOINT_LETTER, CHECKPOINT_LEAST}
use Rattle.porch_store.specs.declared.newest.Newest.{Newest}
use Rattle.porch_store.specs.declared.newest.Newest.TheVariants.{One, Tie}
use Rattle.porch_store.specs.Checkpoints.{IsOpen, IsNewest, number_of, whole_file}
use Rattle.porch_store.specs.Taken.{older_of, newer_of, OldOrShut, OldClosedOrWhole, is_old, is_closed, is_whole, HasNewest, IsNew, KeepsNewest, KeepsOld, KeepsOldOrNew}
use Rattle.porch_store.specs.Stores.{Knows, Fills, IsBelow, behind_first}
use Rattle.porch_store.proofs.Lists.{behind_length, behind_grown, long_grown, sealed_length, not_open, opened_whole, closed_first}
use Rattle.porch_store.proofs.Ranks.{IsBeyond, beyond_both, stays, old_bytes, old_twice, same_number, taken_of_tie, not_new, new_rank, settled_older, settled_newer, settles}

-- what holds of a file's bytes after calls that made them of the old ones
pub made_so : (s t : DiskState) (file : FileName) (g : List ℕ → List ℕ) (F P : List ℕ → Type 0) → WhereTold s (λ fs. F (file_of file fs)) → ((old : List ℕ) → F old → P (g old)) → ReadsNow s t file g → WhereTold t (λ gs. P (file_of file gs))
made_so s t file g F P facts holds now = second_told s.files t.files (λ gs. P (file_of file gs)) (both_by s.files t.files _ (λ none. silent_on s.files t.files _ none now) (λ fs is.
    let a = tells_on s.files t.files _ fs is now in
    let bytes : file_of file a.0 ≡ g (file_of file fs) = ap (λ (f : Files). file_of file f) a.2 ∙ own_bytes file fs (g (file_of file fs)) in
    (a.0, a.1, subst P (sym bytes) (holds (file_of file fs) (told_at s.files fs (λ f. F (file_of file f)) is facts)))))

pub reads_it : (s t : DiskState) (file : FileName) (g : List ℕ → List ℕ) → HasNow s t file g → ReadsNow s t file g
reads_it s t file g now = both_by s.files t.files _ (λ none. silent_on s.files t.files _ none now) (λ fs is.
    let a = tells_on s.files t.files _ fs is now in
    (a.0, a.1, a.2.0))

module _ (gate : Gate) (letter : gate.letter ≡ CHECKPOINT_LETTER) (least : gate.least ≡ CHECKPOINT_LEAST) where
  shuts : (x : List ℕ) → ¬ gates.IsOpen gate x → ¬ IsOpen x
  shuts x closed = λ o. closed (record { long = subst (λ n. n ≤ length x) (sym least) o.long; letter = o.letter ∙ ap (λ (b : ℕ). b ∷ []) (sym letter) })

  module _ (s0 s1 : DiskState) (file : FileName) where
    pub closing : TouchesOnly s0 s1 file (OldOrClosed gate) → TouchesOnly s0 s1 file OldOrShut
    closing run = touches_weaken s0 s1 file (λ _. Unit {0}) (OldOrClosed gate) OldOrShut (when_told s0.files _ (λ fs is. tt)) (λ old x fact q. ⊎_elim (λ same. inl same) (λ closed. inr (shuts x closed)) q) run

    pub staying : TouchesOnly s0 s1 file (λ _ c. ¬ gates.IsOpen gate c) → TouchesOnly s0 s1 file (λ _ c. ¬ IsOpen c)
    staying run = touches_weaken s0 s1 file (λ _. Unit {0}) (λ _ c. ¬ gates.IsOpen gate c) (λ _ c. ¬ IsOpen c) (when_told s0.files _ (λ fs is. tt)) (λ old x fact closed. shuts x closed) run

-- the gate of a checkpoint file
abbrev pub the_gate : Gate
the_gate = record { letter = CHECKPOINT_LETTER; least = CHECKPOINT_LEAST; no_zero = λ none. absurd (omega (arith, none)); wide = omega arith }

-- the taken file is whole, or closed
abbrev pub WholeOrShut : List ℕ → List ℕ → Type 0
WholeOrShut bytes x = (x ≡ whole_file bytes) ⊎ (¬ IsOpen x)

-- nothing is pending in the file that a commit takes
pub begin_settled : (which : Newest) (known : Option ℕ) (s0 : DiskState) → WhereTold s0 (Knows which known s0) → IsSettled s0 (older_of which)
begin_settled which known s0 ready = when_told s0.files _ (λ fs is c left.
    let knows = told_at s0.files fs (Knows which known s0) is ready in
    settled_older which fs c (knows.settled_a c left) (knows.settled_b c left))

-- the close that begins a checkpoint
module _ (which : Newest) (known : Option ℕ) (s0 s1 : DiskState) (ready : WhereTold s0 (Knows which known s0)) (no_tie : which ≢ Tie) (run : TouchesOnly s0 s1 (older_of which) OldOrShut) where
  begun_leaves : (fs : Files) → Knows which known s0 fs → (c : Files) → ButFor (older_of which) s0.leaves (OldOrShut (file_of (older_of which) fs)) c → HasNewest which fs c
  begun_leaves fs knows c but =
      let file = older_of which in
      not_new which fs c no_tie knows.newest (stays which fs but.0 c (file_of file c) but.2.others (settled_newer which fs but.0 (knows.settled_a but.0 but.1) (knows.settled_b but.0 but.1))) but.2.bytes

  pub begin_keeps : KeepsOld which s0 s1
  begin_keeps = both_by s0.files s1.files _ (λ none. silent_on s0.files s1.files _ none run) (λ fs is.
      let t = tells_on s0.files s1.files _ fs is run in
      let file = older_of which in
      let knows = told_at s0.files fs (Knows which known s0) is ready in
      let alone : file_of (newer_of which) t.0 ≡ file_of (newer_of which) fs = stays which fs fs t.0 (file_of file t.0) t.2.others refl in (
        t.0,
        t.1,
        (
          old_bytes which fs t.0 alone knows.newest,
          leaves_weakens s0 s1 (ButFor file s0.leaves (OldOrShut (file_of file fs))) (HasNewest which fs) (begun_leaves fs knows) t.2.moments,
        ),
      ))

  module _ (gate : Gate) (letter : gate.letter ≡ CHECKPOINT_LETTER) (number : ℕ) (below : WhereTold s0 (λ _. IsBelow known number)) (now : HasNow s0 s1 (older_of which) (closed_bytes gate)) where
    pub begin_fills : WhereTold s1 (Fills which known number 0 s1)
    begin_fills = second_told s0.files s1.files (Fills which known number 0 s1) (both_by s0.files s1.files _ (λ none. silent_on s0.files s1.files _ none run) (λ fs is.
        let t = tells_on s0.files s1.files _ fs is run in
        let u = tells_on s0.files s1.files _ fs is now in
        let file = older_of which in
        let knows = told_at s0.files fs (Knows which known s0) is ready in
        let gs = u.0 in
        let bytes : file_of file gs ≡ closed_bytes gate (file_of file fs) = ap (λ (f : Files). file_of file f) u.2.0 ∙ own_bytes file fs (closed_bytes gate (file_of file fs)) in
        let first = closed_first gate letter (file_of file fs) in
        let no_letter : ¬ (take 1 (file_of file gs) ≡ CHECKPOINT_LETTER ∷ []) = subst (λ (l : List ℕ). ¬ (take 1 l ≡ CHECKPOINT_LETTER ∷ [])) (sym bytes) first.1 in
        let alone : file_of (newer_of which) gs ≡ file_of (newer_of which) fs = stays which fs fs gs (closed_bytes gate (file_of file fs)) u.2.0 refl in
        let newest = not_new which fs gs no_tie knows.newest alone (inr (not_open (file_of file gs) no_letter)) in (
          gs,
          u.1,
          record {
            newest = newest.0;
            number = knows.number ∙ sym (same_number which fs gs no_tie newest.1);
            below = told_at s0.files fs (λ _. IsBelow known number) is below;
            settled =
                λ c left. let but = t.2.now c left in
                stays which fs but.0 c (file_of file c) but.2.others (settled_newer which fs but.0 (knows.settled_a but.0 but.1) (knows.settled_b but.0 but.1)) ∙ sym alone;
            front = λ c left. ap (λ (l : List ℕ). take 1 l) (u.2.1 c left);
            no_letter = no_letter;
            long = subst (λ (l : List ℕ). 0 < length l) (sym bytes) first.0;
          },
        )))

-- calls on the taken file while the store fills it
module _ (which : Newest) (known : Option ℕ) (begun count : ℕ) (s t : DiskState) (fills : WhereTold s (Fills which known begun count s)) where
  pub fill_some : WhereTold s (λ fs. 0 < length (file_of (older_of which) fs))
  fill_some = when_told s.files _ (λ fs is. let f = told_at s.files fs (Fills which known begun count s) is fills in omega (arith, f.long))

  pub fill_front : HasFront s (older_of which)
  fill_front = when_told s.files _ (λ fs is. (told_at s.files fs (Fills which known begun count s) is fills).front)

  pub fill_long : WhereTold s (λ fs. count < length (file_of (older_of which) fs))
  fill_long = when_told s.files _ (λ fs is. (told_at s.files fs (Fills which known begun count s) is fills).long)

  pub fill_no_letter : (gate : Gate) → gate.letter ≡ CHECKPOINT_LETTER → gates.HasNoLetter s (older_of which) gate
  fill_no_letter gate letter = when_told s.files _ (λ fs is front. (told_at s.files fs (Fills which known begun count s) is fills).no_letter (front ∙ ap (λ (b : ℕ). b ∷ []) letter))

  no_tie_in : (fs : Files) → Fills which known begun count s fs → which ≢ Tie
  no_tie_in fs f = taken_of_tie which fs f.newest (not_open (file_of (older_of which) fs) f.no_letter)

  module _ (run : TouchesOnly s t (older_of which) (λ _ x. ¬ IsOpen x)) where
    fill_leaves : (fs : Files) → Fills which known begun count s fs → (c : Files) → ButFor (older_of which) s.leaves (λ x. ¬ IsOpen x) c → HasNewest which fs c
    fill_leaves fs f c but =
        not_new which fs c (no_tie_in fs f) f.newest (stays which fs but.0 c (file_of (older_of which) c) but.2.others (f.settled but.0 but.1)) (inr but.2.bytes)

    pub fill_keeps : (s0 : DiskState) → KeepsOld which s0 s → KeepsOld which s0 t
    fill_keeps s0 so_far = both_by s0.files t.files _ (λ none. silent_on s.files t.files _ (silent_on s0.files s.files _ none so_far) run) (λ fs is.
        let a = tells_on s0.files s.files _ fs is so_far in
        let b = tells_on s.files t.files _ a.0 a.1 run in
        let file = older_of which in
        let f = told_at s.files a.0 (Fills which known begun count s) a.1 fills in
        let alone : file_of (newer_of which) b.0 ≡ file_of (newer_of which) a.0 = stays which a.0 a.0 b.0 (file_of file b.0) b.2.others refl in (
          b.0,
          b.1,
          (
            old_twice which fs a.0 b.0 a.2.0 (old_bytes which a.0 b.0 alone f.newest),
            leaves_joins s0 s t (HasNewest which fs) a.2.1
                (leaves_weakens s t (ButFor file s.leaves (λ x. ¬ IsOpen x)) (HasNewest which fs)
                (λ c but. let new = fill_leaves a.0 f c but in (new.0, old_twice which fs a.0 c a.2.0 new.1)) b.2.moments),
          ),
        ))

    pub fill_file : (s0 : DiskState) → TouchesOnly s0 s (older_of which) OldOrShut → TouchesOnly s0 t (older_of which) OldOrShut
    fill_file s0 so_far = touches_join s0 s t (older_of which) OldOrShut (λ x. ¬ IsOpen x) (λ old x shut. inr shut) so_far run

    module _ (piece : List ℕ) (first : ReadsSameFirst s t (older_of which)) (front : HasFront t (older_of which)) (now : ReadsNow s t (older_of which) (λ old. written old (1 + count) piece)) where
      pub fill_goes_on : WhereTold t (Fills which known begun (count + length piece) t)
      fill_goes_on = second_told s.files t.files (Fills which known begun (count + length piece) t) (both_by s.files t.files _ (λ none. silent_on s.files t.files _ none run) (λ fs is.
          let a = tells_on s.files t.files _ fs is now in
          let b = tells_on s.files t.files _ fs is run in
          let one = tells_on s.files t.files _ fs is first in
          let same_files : b.0 ≡ a.0 = cc in
          let same_first : one.0 ≡ a.0 = cc in
          let file = older_of which in
          let f = told_at s.files fs (Fills which known begun count s) is fills in
          let gs = a.0 in
          let bytes : file_of file gs ≡ written (file_of file fs) (1 + count) piece = ap (λ (h : Files). file_of file h) a.2 ∙ own_bytes file fs (written (file_of file fs) (1 + count) piece) in
          let first_is : take 1 (file_of file gs) ≡ take 1 (file_of file fs) = subst (λ (h : Files). take 1 (file_of file h) ≡ take 1 (file_of file fs)) same_first one.2 in
          let no_letter : ¬ (take 1 (file_of file gs) ≡ CHECKPOINT_LETTER ∷ []) = λ is_letter. f.no_letter (sym first_is ∙ is_letter) in
          let alone : file_of (newer_of which) gs ≡ file_of (newer_of which) fs = stays which fs fs gs (written (file_of file fs) (1 + count) piece) a.2 refl in
          let no_tie = no_tie_in fs f in
          let newest = not_new which fs gs no_tie f.newest alone (inr (not_open (file_of file gs) no_letter)) in (
            gs,
            a.1,
            record {
              newest = newest.0;
              number = f.number ∙ sym (same_number which fs gs no_tie newest.1);
              below = f.below;
              settled = λ c left. let but = b.2.now c left in stays which fs but.0 c (file_of file c) but.2.others (f.settled but.0 but.1) ∙ sym alone;
              front = told_at t.files gs (λ h. (c : Files) → t.leaves c → take 1 (file_of file c) ≡ take 1 (file_of file h)) a.1 front;
              no_letter = no_letter;
              long = subst (λ (l : List ℕ). count + length piece < length l) (sym bytes) (long_grown count (file_of file fs) piece f.long);
            },
          )))

      pub fill_appended : (bytes : List ℕ) → WhereTold s (λ fs. behind_first count (file_of (older_of which) fs) ≡ bytes) → WhereTold t (λ gs. behind_first (count + length piece) (file_of (older_of which) gs) ≡ bytes ++ piece)
      fill_appended bytes has = made_so s t (older_of which) (λ old. written old (1 + count) piece) (λ old. (count < length old) × (behind_first count old ≡ bytes)) (λ l. behind_first (count + length piece) l ≡ bytes ++ piece)
          (when_told s.files _ (λ fs is. (
            (told_at s.files fs (Fills which known begun count s) is fills).long,
            told_at s.files fs (λ h. behind_first count (file_of (older_of which) h) ≡ bytes) is has,
          )))
          (λ old fact. behind_grown count old piece fact.0 ∙ ap (λ (l : List ℕ). l ++ piece) fact.1) now

-- the seal and the opening that finish a checkpoint
module _ (which : Newest) (known : Option ℕ) (begun count : ℕ) (s t : DiskState) (fills : WhereTold s (Fills which known begun count s)) (long : 127 ≤ count)
    (numbered : WhereTold s (λ fs. number_of (whole_file (behind_first count (file_of (older_of which) fs))) ≡ begun)) (bytes : List ℕ) (has : WhereTold s (λ fs. behind_first count (file_of (older_of which) fs) ≡ bytes))
    (run : TouchesOnly s t (older_of which) (λ _ x. WholeOrShut bytes x)) where
  pub finish_file : (s0 : DiskState) → TouchesOnly s0 s (older_of which) OldOrShut → TouchesOnly s0 t (older_of which) (OldClosedOrWhole bytes)
  finish_file s0 so_far = touches_join s0 s t (older_of which) (OldClosedOrWhole bytes) (WholeOrShut bytes) (λ old x r. ⊎_elim (λ whole. is_whole whole) (λ shut. is_closed shut) r)
      (touches_weaken s0 s (older_of which) (λ _. Unit {0}) OldOrShut (OldClosedOrWhole bytes) (when_told s0.files _ (λ fs is. tt)) (λ old x fact q. ⊎_elim (λ same. is_old same) (λ shut. is_closed shut) q) so_far) run

  module _ (fs : Files) (f : Fills which known begun count s fs) (number_is : number_of (whole_file (behind_first count (file_of (older_of which) fs))) ≡ begun) (bytes_are : behind_first count (file_of (older_of which) fs) ≡ bytes) where
    far : IsBeyond begun fs
    far = beyond_both which fs known begun (no_tie_in which known begun count s t fills fs f) f.newest f.number f.below

    bytes_long : 127 ≤ length bytes
    bytes_long = omega (arith, long, ap length bytes_are, behind_length count (file_of (older_of which) fs) f.long)

    has_number : number_of (whole_file bytes) ≡ begun
    has_number = subst (λ (l : List ℕ). number_of (whole_file l) ≡ begun) bytes_are number_is

    new_there : (c : Files) → file_of (newer_of which) c ≡ file_of (newer_of which) fs → file_of (older_of which) c ≡ whole_file bytes → IsNewest (One (older_of which)) c
    new_there c alone whole = new_rank bytes begun bytes_long has_number which fs c (no_tie_in which known begun count s t fills fs f) f.newest far alone whole

    finish_leaves : (c : Files) → ButFor (older_of which) s.leaves (WholeOrShut bytes) c → KeepsNewest which fs bytes c
    finish_leaves c but =
        let alone = stays which fs but.0 c (file_of (older_of which) c) but.2.others (f.settled but.0 but.1) in
        ⊎_elim (λ whole. inr (record { newest = new_there c alone whole; whole = whole })) (λ shut. inl (not_new which fs c (no_tie_in which known begun count s t fills fs f) f.newest alone (inr shut))) but.2.bytes

  pub finish_keeps : (s0 : DiskState) → KeepsOld which s0 s → KeepsOldOrNew which bytes s0 t
  finish_keeps s0 so_far = both_by s0.files t.files _ (λ none. silent_on s.files t.files _ (silent_on s0.files s.files _ none so_far) run) (λ fs is.
      let a = tells_on s0.files s.files _ fs is so_far in
      let b = tells_on s.files t.files _ a.0 a.1 run in
      let file = older_of which in
      let f = told_at s.files a.0 (Fills which known begun count s) a.1 fills in
      let number_is = told_at s.files a.0 (λ h. number_of (whole_file (behind_first count (file_of file h))) ≡ begun) a.1 numbered in
      let bytes_are = told_at s.files a.0 (λ h. behind_first count (file_of file h) ≡ bytes) a.1 has in (
        b.0,
        b.1,
        leaves_joins s0 s t (KeepsNewest which fs bytes) (leaves_weakens s0 s (HasNewest which fs) (KeepsNewest which fs bytes) (λ c old. inl old) a.2.1)
            (leaves_weakens s t (ButFor file s.leaves (WholeOrShut bytes)) (KeepsNewest which fs bytes)
            (λ c but. ⊎_elim (λ old. inl (old.0, old_twice which fs a.0 c a.2.0 old.1)) (λ new. inr new) (finish_leaves a.0 f number_is bytes_are c but)) b.2.moments),
      ))

  module _ (now : HasNow s t (older_of which) (λ _. whole_file bytes)) where
    pub is_new : WhereTold t (λ _. (c : Files) → t.leaves c → IsNew (older_of which) bytes c)
    is_new = second_told s.files t.files _ (both_by s.files t.files _ (λ none. silent_on s.files t.files _ none run) (λ fs is.
        let b = tells_on s.files t.files _ fs is run in
        let u = tells_on s.files t.files _ fs is now in
        let file = older_of which in
        let f = told_at s.files fs (Fills which known begun count s) is fills in
        let number_is = told_at s.files fs (λ h. number_of (whole_file (behind_first count (file_of file h))) ≡ begun) is numbered in
        let bytes_are = told_at s.files fs (λ h. behind_first count (file_of file h) ≡ bytes) is has in
        let there : file_of file u.0 ≡ whole_file bytes = ap (λ (h : Files). file_of file h) u.2.0 ∙ own_bytes file fs (whole_file bytes) in (
          b.0,
          b.1,
          λ c left.
              let but = b.2.now c left in
              let whole : file_of file c ≡ whole_file bytes = u.2.1 c left ∙ there in
              record {
                newest = new_there fs f number_is bytes_are c (stays which fs but.0 c (file_of file c) but.2.others (f.settled but.0 but.1)) whole;
                whole = whole;
              },
        )))

    pub is_ready : WhereTold t (Knows (One (older_of which)) (Some begun) t)
    is_ready = second_told s.files t.files (Knows (One (older_of which)) (Some begun) t) (both_by s.files t.files _ (λ none. silent_on s.files t.files _ none run) (λ fs is.
        let b = tells_on s.files t.files _ fs is run in
        let u = tells_on s.files t.files _ fs is now in
        let file = older_of which in
        let f = told_at s.files fs (Fills which known begun count s) is fills in
        let number_is = told_at s.files fs (λ h. number_of (whole_file (behind_first count (file_of file h))) ≡ begun) is numbered in
        let bytes_are = told_at s.files fs (λ h. behind_first count (file_of file h) ≡ bytes) is has in
        let gs = u.0 in
        let there : file_of file gs ≡ whole_file bytes = ap (λ (h : Files). file_of file h) u.2.0 ∙ own_bytes file fs (whole_file bytes) in
        let alone : file_of (newer_of which) gs ≡ file_of (newer_of which) fs = stays which fs fs gs (whole_file bytes) u.2.0 refl in
        let settled : (c : Files) → t.leaves c → (c.ck_a ≡ gs.ck_a) × (c.ck_b ≡ gs.ck_b) = λ c left.
        let but = b.2.now c left in
        settles which fs gs c (stays which fs but.0 c (file_of file c) but.2.others (f.settled but.0 but.1)) alone (u.2.1 c left) in (
          gs,
          u.1,
          record {
            newest = new_there fs f number_is bytes_are gs alone there;
            number = ap (λ (n : ℕ). Some n) (sym (has_number fs f number_is bytes_are)) ∙ ap (λ (l : List ℕ). Some (number_of l)) (sym there);
            settled_a = λ c left. (settled c left).0;
            settled_b = λ c left. (settled c left).1;
          },
        )))

-- the same for the bytes that were appended, whichever they are
pub by_bytes : (s t : DiskState) (file : FileName) (count : ℕ) (R : Files → Files → Type 0) (P : Files → Type 0) → BothTell s.files t.files R → ((bytes : List ℕ) → WhereTold s (λ fs. behind_first count (file_of file fs) ≡ bytes) → WhereTold t P) → WhereTold t P
by_bytes s t file count R P both holds = second_told s.files t.files P (both_by s.files t.files _ (λ none. silent_on s.files t.files _ none both) (λ fs is.
    let a = tells_on s.files t.files _ fs is both in (
      a.0,
      a.1,
      told_at t.files a.0 P a.1
          (holds (behind_first count (file_of file fs)) (when_told s.files _ (λ h told. let same : h ≡ fs = cc in ap (λ (x : Files). behind_first count (file_of file x)) same))),
    )))

-- what the two calls leave of the taken file
module _ (gate : Gate) (letter : gate.letter ≡ CHECKPOINT_LETTER) (least : gate.least ≡ CHECKPOINT_LEAST) (count : ℕ) (s t : DiskState) (file : FileName) (long : WhereTold s (λ fs. count < length (file_of file fs)))
    (sealed : HasNow s t file (take (1 + count))) where
  pub sealed_long : 127 ≤ count → WhereTold t (λ fs. gate.least ≤ length (file_of file fs))
  sealed_long enough = made_so s t file (take (1 + count)) (λ old. count < length old) (λ l. gate.least ≤ length l) long (λ old fact. omega (arith, least, enough, sealed_length count old fact)) (reads_it s t file (take (1 + count)) sealed)

  module _ (bytes : List ℕ) (has : WhereTold s (λ fs. behind_first count (file_of file fs) ≡ bytes)) where
    facts : WhereTold s (λ fs. (count < length (file_of file fs)) × (behind_first count (file_of file fs) ≡ bytes))
    facts = when_told s.files _ (λ fs is. (told_at s.files fs (λ h. count < length (file_of file h)) is long, told_at s.files fs (λ h. behind_first count (file_of file h) ≡ bytes) is has))

    opens_whole : WhereTold t (λ fs. opened_bytes gate (file_of file fs) ≡ whole_file bytes)
    opens_whole = made_so s t file (take (1 + count)) (λ old. (count < length old) × (behind_first count old ≡ bytes)) (λ l. opened_bytes gate l ≡ whole_file bytes) facts
        (λ old fact. opened_whole gate letter count old bytes fact.0 fact.1) (reads_it s t file (take (1 + count)) sealed)

    pub finish_run : (u : DiskState) → TouchesOnly s t file (λ _ x. ¬ IsOpen x) → TouchesOnly t u file (WholeOrClosed gate) → TouchesOnly s u file (λ _ x. WholeOrShut bytes x)
    finish_run u shut opened = touches_join s t u file (λ _ x. WholeOrShut bytes x) (WholeOrShut bytes) (λ old x r. r)
        (touches_weaken s t file (λ _. Unit {0}) (λ _ x. ¬ IsOpen x) (λ _ x. WholeOrShut bytes x) (when_told s.files _ (λ fs is. tt)) (λ old x fact closed. inr closed) shut)
        (touches_weaken t u file (λ x. opened_bytes gate x ≡ whole_file bytes) (WholeOrClosed gate) (λ _ x. WholeOrShut bytes x) opens_whole
        (λ old x fact q. ⊎_elim (λ whole. inl (whole ∙ fact)) (λ closed. inr (shuts gate letter least x closed)) q) opened)

    pub finish_now : (u : DiskState) → HasNow t u file (opened_bytes gate) → HasNow s u file (λ _. whole_file bytes)
    finish_now u opened = both_by s.files u.files _ (λ none. silent_on t.files u.files _ (silent_on s.files t.files _ none sealed) opened) (λ fs is.
        let a = tells_on s.files t.files _ fs is sealed in
        let b = tells_on t.files u.files _ a.0 a.1 opened in
        let whole : opened_bytes gate (file_of file a.0) ≡ whole_file bytes = told_at t.files a.0 (λ h. opened_bytes gate (file_of file h) ≡ whole_file bytes) a.1 opens_whole in (
          b.0,
          b.1,
          (
            b.2.0 ∙ ap (λ (l : List ℕ). with_file file a.0 l) whole ∙ ap (λ (h : Files). with_file file h (whole_file bytes)) a.2.0 ∙ with_twice file fs (take (1 + count) (file_of file fs)) (whole_file bytes),
            b.2.1,
          ),
        ))

-- a seal alone
pub sealed_run : (bytes : List ℕ) (s t : DiskState) (file : FileName) → TouchesOnly s t file (λ _ x. ¬ IsOpen x) → TouchesOnly s t file (λ _ x. WholeOrShut bytes x)
sealed_run bytes s t file shut = touches_weaken s t file (λ _. Unit {0}) (λ _ x. ¬ IsOpen x) (λ _ x. WholeOrShut bytes x) (when_told s.files _ (λ fs is. tt)) (λ old x fact closed. inr closed) shut

-- what was begun and not finished, said of the whole commit
pub old_file : (bytes : List ℕ) (s t : DiskState) (file : FileName) → TouchesOnly s t file OldOrShut → TouchesOnly s t file (OldClosedOrWhole bytes)
old_file bytes s t file run = touches_weaken s t file (λ _. Unit {0}) OldOrShut (OldClosedOrWhole bytes) (when_told s.files _ (λ fs is. tt)) (λ old x fact q. ⊎_elim (λ same. is_old same) (λ shut. is_closed shut) q) run

pub old_kept : (which : Newest) (bytes : List ℕ) (s t : DiskState) → KeepsOld which s t → KeepsOldOrNew which bytes s t
old_kept which bytes s t keeps = both_by s.files t.files _ (λ none. silent_on s.files t.files _ none keeps) (λ fs is.
    let a = tells_on s.files t.files _ fs is keeps in
    (a.0, a.1, leaves_weakens s t (HasNewest which fs) (KeepsNewest which fs bytes) (λ c old. inl old) a.2.1))

-- what the last calls make of a file that others changed before
pub made_last : (s t u : DiskState) (file : FileName) (Q : List ℕ → List ℕ → Type 0) (bytes : List ℕ) → TouchesOnly s t file Q → HasNow t u file (λ _. bytes) → HasNow s u file (λ _. bytes)
made_last s t u file Q bytes run now = both_by s.files u.files _ (λ none. silent_on t.files u.files _ (silent_on s.files t.files _ none run) now) (λ fs is.
    let a = tells_on s.files t.files _ fs is run in
    let b = tells_on t.files u.files _ a.0 a.1 now in
    (b.0, b.1, (b.2.0 ∙ ap (λ (h : Files). with_file file h bytes) a.2.others ∙ with_twice file fs (file_of file a.0) bytes, b.2.1)))

-- what an answer says, said more weakly
pub on_ok : {T : Type 0} (r : Result T Failed) (A B : Type 0) → (A → B) → OnOk r A → OnOk r B
on_ok (Ok x) A B f a = f a
on_ok (Err e) A B f a = tt
