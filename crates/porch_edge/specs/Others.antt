-- Calls that leave a file as it was, and what is pending in it. Each fact is proved here, for all that can be said of its
-- bytes; the laws in src/laws.rt say it of tests on them, as clauses can.
use Rattle.std.specs.Prelude.{◌≡◌, ◌≢◌, ℕ, List, take, Result}
use Rattle.std.proofs.Common.{⊎_elim, refl, sym, ◌∙◌, ap, subst}
use Rattle.std.specs.declared.option.Option.{Option}
use Rattle.std.specs.declared.option.Option.TheVariants.{Some, None}
use Rattle.std.specs.declared.result.Result.TheVariants.{Ok, Err}
use Rattle.porch_edge.specs.declared.disk.FileName.{FileName}
use Rattle.porch_edge.specs.declared.failed.Failed.{Failed}
use Rattle.porch_edge.specs.Files.{Files, file_of, Changed}
use Rattle.porch_edge.specs.Disk.{DiskState, since, WhereTold, Turned, Passes, Stays, Alters, LenStep, ReadStep, WriteStep, CutStep, SyncStep, LeavesOnly, ButFor, IsSettled, HasFront, TouchesOnly, OnlyLooks, LeavesOf, Spares, SparesOne}
use Rattle.porch_edge.specs.OneFile.{other_bytes}
use Rattle.porch_edge.specs.Told.{told_at, tells_on, silent_on, both_by, second_told}
use Rattle.porch_edge.specs.Runs.{OnlyNow, passes_weakens, leaves_weakens, leaves_joins}

-- another file than the one that has changed
changed_other : (file other : FileName) (R : List ℕ → List ℕ → Type 0) (fs gs : Files) → other ≢ file → Changed file R fs gs → file_of other gs ≡ file_of other fs
changed_other file other R fs gs is changed = ap (λ (x : Files). file_of other x) changed.others ∙ other_bytes file other fs (file_of file gs) is

turned_other : (file other : FileName) (R : List ℕ → List ℕ → Type 0) (before : Files → Type 0) → other ≢ file → (c : Files) → Turned file R before c → LeavesOf other before c
turned_other file other R before is c turned = (turned.0, turned.1, changed_other file other R turned.0 c is turned.2)

-- by one call
module _ (s t : DiskState) (fs gs : Files) (only : (c : Files) → since s s.moment c → s.leaves c) where
  each_by : (other : FileName) (P : Files → Type 0) → Passes s t P → ((c : Files) → P c → LeavesOf other s.leaves c) → LeavesOnly s t (LeavesOf other s.leaves)
  each_by other P time here = record {
    each = λ c left. ⊎_elim (λ past. (c, only c (left.0, left.1, past), refl)) (λ now. here c now.1) (time.nothing_else left.0 c left.2);
    time = passes_weakens s t P (LeavesOf other s.leaves) here time;
  }

  stays_spares : (other : FileName) → Stays s t fs gs → Spares s t fs gs other
  stays_spares other stays = record {
    same = ap (λ (x : Files). file_of other x) stays.same;
    now = λ c left. (c, stays.crash c left, refl);
    moments = each_by other s.leaves stays.time (λ c left. (c, left, refl));
  }

  alters_spares : (file other : FileName) (full : List ℕ) (R S : List ℕ → List ℕ → Type 0) (r : Result (Unit {0}) Failed) → other ≢ file → Alters s t fs gs file full R S r → Spares s t fs gs other
  alters_spares file other full R S (Ok x) is alters = record {
    same = ap (λ (x : Files). file_of other x) alters.done ∙ other_bytes file other fs full is;
    now = λ c left. turned_other file other R s.leaves is c (alters.crash c left);
    moments = each_by other (Turned file R s.leaves) alters.time (turned_other file other R s.leaves is);
  }
  alters_spares file other full R S (Err e) is alters = record {
    same = changed_other file other S fs gs is alters.failed;
    now = λ c left. turned_other file other S s.leaves is c (alters.crash_failed c left);
    moments = each_by other (Turned file S s.leaves) alters.time_failed (turned_other file other S s.leaves is);
  }

module _ (s t : DiskState) (only : OnlyNow s) (other : FileName) where
  pub len_spares : (file : FileName) (r : Result ℕ Failed) → LenStep s t file r → SparesOne s t other
  len_spares file r step = both_by s.files t.files _ (λ none. silent_on s.files t.files _ none step) (λ fs is.
      let u = tells_on s.files t.files _ fs is step in
      (u.0, u.1, stays_spares s t fs u.0 (told_at s.files fs (λ _. (c : Files) → since s s.moment c → s.leaves c) is only) other u.2.0))

  pub read_spares : (file : FileName) (at : ℕ) (before after : List ℕ) (r : Result ℕ Failed) → ReadStep s t file at before after r → SparesOne s t other
  read_spares file at before after r step = both_by s.files t.files _ (λ none. silent_on s.files t.files _ none step) (λ fs is.
      let u = tells_on s.files t.files _ fs is step in
      (u.0, u.1, stays_spares s t fs u.0 (told_at s.files fs (λ _. (c : Files) → since s s.moment c → s.leaves c) is only) other u.2.0))

  pub sync_spares : (file : FileName) (r : Result (Unit {0}) Failed) → SyncStep s t file r → SparesOne s t other
  sync_spares file r step = both_by s.files t.files _ (λ none. silent_on s.files t.files _ none step) (λ fs is.
      let u = tells_on s.files t.files _ fs is step in
      (u.0, u.1, stays_spares s t fs u.0 (told_at s.files fs (λ _. (c : Files) → since s s.moment c → s.leaves c) is only) other u.2.0))

  pub write_spares : (file : FileName) (at : ℕ) (bytes : List ℕ) (r : Result (Unit {0}) Failed) → other ≢ file → WriteStep s t file at bytes r → SparesOne s t other
  write_spares file at bytes r apart step = both_by s.files t.files _ (λ none. silent_on s.files t.files _ none step) (λ fs is.
      let u = tells_on s.files t.files _ fs is step in
      (u.0, u.1, alters_spares s t fs u.0 (told_at s.files fs (λ _. (c : Files) → since s s.moment c → s.leaves c) is only) file other _ _ _ r apart u.2.0))

  pub cut_spares : (file : FileName) (len : ℕ) (r : Result (Unit {0}) Failed) → other ≢ file → CutStep s t file len r → SparesOne s t other
  cut_spares file len r apart step = both_by s.files t.files _ (λ none. silent_on s.files t.files _ none step) (λ fs is.
      let u = tells_on s.files t.files _ fs is step in
      (u.0, u.1, alters_spares s t fs u.0 (told_at s.files fs (λ _. (c : Files) → since s s.moment c → s.leaves c) is only) file other _ _ _ r apart u.2.0))

-- by a run on another file
pub touches_spare : (s t : DiskState) (file other : FileName) (Q : List ℕ → List ℕ → Type 0) → other ≢ file → TouchesOnly s t file Q → SparesOne s t other
touches_spare s t file other Q apart run = both_by s.files t.files _ (λ none. silent_on s.files t.files _ none run) (λ fs is.
    let u = tells_on s.files t.files _ fs is run in
    let R : List ℕ → List ℕ → Type 0 = λ _ x. Q (file_of file fs) x in (
      u.0,
      u.1,
      record {
        same = ap (λ (x : Files). file_of other x) u.2.others ∙ other_bytes file other fs (file_of file u.0) apart;
        now = λ c left. turned_other file other R s.leaves apart c (u.2.now c left);
        moments = leaves_weakens s t (ButFor file s.leaves (Q (file_of file fs))) (LeavesOf other s.leaves) (turned_other file other R s.leaves apart) u.2.moments;
      },
    ))

-- by a run that changes nothing
pub looks_spare : (s t : DiskState) (other : FileName) → OnlyLooks s t → SparesOne s t other
looks_spare s t other run = both_by s.files t.files _ (λ none. silent_on s.files t.files _ none run) (λ fs is.
    let u = tells_on s.files t.files _ fs is run in (
      u.0,
      u.1,
      record {
        same = ap (λ (x : Files). file_of other x) u.2.same;
        now = λ c left. (c, u.2.now c left, refl);
        moments = leaves_weakens s t s.leaves (LeavesOf other s.leaves) (λ c left. (c, left, refl)) u.2.moments;
      },
    ))

-- two such runs are one
leaves_twice : (other : FileName) (before between : Files → Type 0) → ((c : Files) → between c → LeavesOf other before c) → (c : Files) → LeavesOf other between c → LeavesOf other before c
leaves_twice other before between first c left = let from = first left.0 left.1 in (from.0, from.1, left.2 ∙ from.2)

spares_joined : (s t u : DiskState) (fs gs hs : Files) (other : FileName) → Spares s t fs gs other → Spares t u gs hs other → Spares s u fs hs other
spares_joined s t u fs gs hs other first second = record {
  same = second.same ∙ first.same;
  now = λ c left. leaves_twice other s.leaves t.leaves first.now c (second.now c left);
  moments = leaves_joins s t u (LeavesOf other s.leaves) first.moments
      (leaves_weakens t u (LeavesOf other t.leaves) (LeavesOf other s.leaves) (leaves_twice other s.leaves t.leaves first.now) second.moments);
}

pub spares_join : (s t u : DiskState) (other : FileName) → SparesOne s t other → SparesOne t u other → SparesOne s u other
spares_join s t u other first second = both_by s.files u.files _ (λ none. silent_on t.files u.files _ (silent_on s.files t.files _ none first) second) (λ fs is.
    let a = tells_on s.files t.files _ fs is first in
    let b = tells_on t.files u.files _ a.0 a.1 second in
    (b.0, b.1, spares_joined s t u fs a.0 b.0 other a.2 b.2))

abbrev some_or : Files → Option Files → Files
some_or f None = f
some_or f (Some g) = g

same_some : (f g : Files) → Some f ≡ Some g → f ≡ g
same_some f g is = ap (some_or f) is

-- what reads give of the file stays
pub spares_reads : (s t : DiskState) (other : FileName) (P : List ℕ → Type 0) → WhereTold s (λ fs. P (file_of other fs)) → SparesOne s t other → WhereTold t (λ gs. P (file_of other gs))
spares_reads s t other P holds run = second_told s.files t.files (λ gs. P (file_of other gs)) (both_by s.files t.files _ (λ none. silent_on s.files t.files _ none run) (λ fs is.
    let u = tells_on s.files t.files _ fs is run in
    (u.0, u.1, subst P (sym u.2.same) (told_at s.files fs (λ f. P (file_of other f)) is holds))))

-- the same, for files that are told to be those
pub told_second : (s t : DiskState) (other : FileName) (fs gs : Files) → s.files ≡ Some fs → t.files ≡ Some gs → SparesOne s t other → file_of other gs ≡ file_of other fs
told_second s t other fs gs was is run = let u = tells_on s.files t.files _ fs was run in ap (λ (f : Files). file_of other f) (same_some gs u.0 (sym is ∙ u.1)) ∙ u.2.same

-- and of two files
pub spares_both : (s t : DiskState) (one other : FileName) (P : List ℕ → List ℕ → Type 0) → WhereTold s (λ fs. P (file_of one fs) (file_of other fs)) → SparesOne s t one → SparesOne s t other
    → WhereTold t (λ gs. P (file_of one gs) (file_of other gs))
spares_both s t one other P holds first second = second_told s.files t.files (λ gs. P (file_of one gs) (file_of other gs)) (both_by s.files t.files _ (λ none. silent_on s.files t.files _ none first) (λ fs is.
    let u = tells_on s.files t.files _ fs is first in
    let same : file_of other u.0 ≡ file_of other fs = told_second s t other fs u.0 is u.1 second in
    (u.0, u.1, subst (λ x. P x (file_of other u.0)) (sym u.2.same) (subst (λ x. P (file_of one fs) x) (sym same) (told_at s.files fs (λ f. P (file_of one f) (file_of other f)) is holds)))))

-- and what a crash leaves of it
pub spares_leaves : (s t : DiskState) (other : FileName) (P : List ℕ → List ℕ → Type 0) → WhereTold s (λ fs. (c : Files) → s.leaves c → P (file_of other fs) (file_of other c)) → SparesOne s t other
    → WhereTold t (λ gs. (c : Files) → t.leaves c → P (file_of other gs) (file_of other c))
spares_leaves s t other P holds run = second_told s.files t.files (λ gs. (c : Files) → t.leaves c → P (file_of other gs) (file_of other c)) (both_by s.files t.files _ (λ none. silent_on s.files t.files _ none run) (λ fs is.
    let u = tells_on s.files t.files _ fs is run in
    let there = told_at s.files fs (λ f. (c : Files) → s.leaves c → P (file_of other f) (file_of other c)) is holds in (
      u.0,
      u.1,
      λ c left.
          let from = u.2.now c left in
          subst (λ x. P x (file_of other c)) (sym u.2.same) (subst (λ x. P (file_of other fs) x) (sym from.2) (there from.0 from.1)),
    )))

-- so nothing is pending in it where nothing was
pub spares_settled : (s t : DiskState) (other : FileName) → IsSettled s other → SparesOne s t other → IsSettled t other
spares_settled s t other settled run = spares_leaves s t other (λ now x. x ≡ now) settled run

-- and its first byte stays
pub spares_front : (s t : DiskState) (other : FileName) → HasFront s other → SparesOne s t other → HasFront t other
spares_front s t other front run = spares_leaves s t other (λ now x. take 1 x ≡ take 1 now) front run
