-- Calls one after another on a disk: what one call more adds to a run of them, and what joins two runs. Each fact is
-- proved here, for all predicates on a file's bytes; the laws in src/laws.rt say it of tests on them, as clauses can.
use Rattle.std.specs.Prelude.{◌≡◌, ◌⊎◌, ℕ, Bool, IsTrue, List, take, Result}
use Rattle.std.proofs.Common.{inl, inr, ⊎_elim, sym, ◌∙◌, ap, subst}
use Rattle.std.proofs.Math.Nat.{le_refl, le_trans}
use Rattle.std.specs.declared.result.Result.TheVariants.{Ok, Err}
use Rattle.porch_edge.specs.declared.disk.FileName.{FileName}
use Rattle.porch_edge.specs.declared.failed.Failed.{Failed}
use Rattle.porch_edge.specs.Files.{Files, file_of, with_file, written, Shortened, Marred}
use Rattle.porch_edge.specs.Disk.{DiskState, Moment, IsBy, IsBehind, since, WhereTold, BothTell, Turned, Passes, Stays, Alters, LenStep, ReadStep, WriteStep, CutStep, SyncStep, TornWrite, LeavesOnly, ButFor, IsSettled, Touches, TouchesOnly, Looks, OnlyLooks, HasNow}
use Rattle.porch_edge.specs.OneFile.{own_bytes, with_own, with_twice}
use Rattle.porch_edge.specs.Told.{told_at, tells_on, silent_on, both_by, second_told}

-- a run so far, from one state of a disk to another: it changed one file alone, of which a crash left bytes with Q all along and leaves bytes with M now
pub record Going (old new : DiskState) (fs gs : Files) (file : FileName) (M Q : List ℕ → Type 0) : Type 0 where
  pub others : gs ≡ with_file file fs (file_of file gs)
  pub now : (c : Files) → new.leaves c → ButFor file old.leaves M c
  pub moments : LeavesOnly old new (ButFor file old.leaves Q)

-- the same where the disk tells its files, with M and Q of the file's old bytes
abbrev pub Run : DiskState → DiskState → FileName → (List ℕ → List ℕ → Type 0) → (List ℕ → List ℕ → Type 0) → Type 0
Run old new file M Q = BothTell old.files new.files (λ fs gs. Going old new fs gs file (M (file_of file fs)) (Q (file_of file fs)))

-- since this moment there is no other
abbrev pub OnlyNow : DiskState → Type 0
OnlyNow s = WhereTold s (λ _. (c : Files) → since s s.moment c → s.leaves c)

by_itself : (s : Moment) → IsBy s s
by_itself s = λ clock. le_refl (s clock)

by_both : (s t u : Moment) → IsBy s t → IsBy t u → IsBy s u
by_both s t u first second = λ clock. le_trans (first clock) (second clock)

but_weakens : (file : FileName) (before : Files → Type 0) (M Q : List ℕ → Type 0) → ((x : List ℕ) → M x → Q x) → (c : Files) → ButFor file before M c → ButFor file before Q c
but_weakens file before M Q imp c but = (but.0, but.1, record { others = but.2.others; bytes = imp (file_of file c) but.2.bytes })

but_joins : (file : FileName) (before between : Files → Type 0) (Q R : List ℕ → Type 0) → ((c : Files) → between c → ButFor file before Q c) → (c : Files) → ButFor file between R c → ButFor file before R c
but_joins file before between Q R first c but =
    let one = first but.0 but.1 in (
      one.0,
      one.1,
      record {
        others = but.2.others ∙ ap (λ (x : Files). with_file file x (file_of file c)) one.2.others ∙ with_twice file one.0 (file_of file but.0) (file_of file c);
        bytes = but.2.bytes;
      },
    )

behind_both : (s t m : Moment) → IsBy s t → IsBehind m t → IsBehind m s
behind_both s t m le behind = (by_both s t m le behind.0, λ by. behind.1 (by_both m s t by le))

-- no call
passes_begin : (s : DiskState) (P : Files → Type 0) → Passes s s P
passes_begin s P = record { later = by_itself s.moment; nothing_else = λ m c left. inl left; keeps = λ m c left. left }

-- what a crash leaves at the moments that are passed, said more weakly
pub passes_weakens : (s t : DiskState) (P R : Files → Type 0) → ((c : Files) → P c → R c) → Passes s t P → Passes s t R
passes_weakens s t P R imp time = record {
  later = time.later;
  nothing_else = λ m c left. ⊎_elim (λ past. inl past) (λ here. inr (here.0, imp c here.1)) (time.nothing_else m c left);
  keeps = time.keeps;
}

-- and over two runs
passes_joins : (s t u : DiskState) (P : Files → Type 0) → Passes s t P → Passes t u P → Passes s u P
passes_joins s t u P first second = record {
  later = by_both s.moment t.moment u.moment first.later second.later;
  nothing_else = λ m c left. ⊎_elim (λ past. first.nothing_else m c past) (λ here. inr (behind_both s.moment t.moment m first.later here.0, here.1)) (second.nothing_else m c left);
  keeps = λ m c left. second.keeps m c (first.keeps m c left);
}

-- what a crash since an earlier moment may have left is what it might have left before, or is left all along
pub since_before : (s t : DiskState) (P : Files → Type 0) → LeavesOnly s t P → (u : Moment) (c : Files) → since t u c → since s u c ⊎ P c
since_before s t P all u c left = ⊎_elim (λ past. inl (left.0, left.1, past)) (λ here. inr here.1) (all.time.nothing_else left.0 c left.2)

-- and stays so
pub since_keeps : (s t : DiskState) (P : Files → Type 0) → LeavesOnly s t P → (u : Moment) (c : Files) → since s u c → since t u c
since_keeps s t P all u c left = (left.0, left.1, all.time.keeps left.0 c left.2)

-- what a crash leaves all along, said more weakly
pub leaves_weakens : (s t : DiskState) (P R : Files → Type 0) → ((c : Files) → P c → R c) → LeavesOnly s t P → LeavesOnly s t R
leaves_weakens s t P R imp all = record { each = λ c left. imp c (all.each c left); time = passes_weakens s t P R imp all.time }

-- and over two runs
pub leaves_joins : (s t u : DiskState) (P : Files → Type 0) → LeavesOnly s t P → LeavesOnly t u P → LeavesOnly s u P
leaves_joins s t u P first second = record {
  each = λ c left. ⊎_elim (λ past. first.each c (left.0, left.1, past)) (λ here. here.1) (second.time.nothing_else left.0 c left.2);
  time = passes_joins s t u P first.time second.time;
}

-- and one call more
leaves_more : (s0 s t : DiskState) (P R : Files → Type 0) → LeavesOnly s0 s P → Passes s t R → ((c : Files) → R c → P c) → LeavesOnly s0 t P
leaves_more s0 s t P R so_far time here = record {
  each = λ c left. ⊎_elim (λ past. so_far.each c (left.0, left.1, past)) (λ now. here c now.1) (time.nothing_else left.0 c left.2);
  time = passes_joins s0 s t P so_far.time (passes_weakens s t R P here time);
}

-- two runs that change nothing are one
looks_joined : (s t u : DiskState) (fs gs hs : Files) → Looks s t fs gs → Looks t u gs hs → Looks s u fs hs
looks_joined s t u fs gs hs first second = record {
  same = second.same ∙ first.same;
  now = λ c left. first.now c (second.now c left);
  moments = leaves_joins s t u s.leaves first.moments (leaves_weakens t u t.leaves s.leaves first.now second.moments);
}

pub looks_join : (s t u : DiskState) → OnlyLooks s t → OnlyLooks t u → OnlyLooks s u
looks_join s t u first second = both_by s.files u.files _ (λ none. silent_on t.files u.files _ (silent_on s.files t.files _ none first) second) (λ fs is.
    let a = tells_on s.files t.files _ fs is first in
    let b = tells_on t.files u.files _ a.0 a.1 second in
    (b.0, b.1, looks_joined s t u fs a.0 b.0 a.2 b.2))

-- one call that changes nothing is a run that changes nothing
stays_looks : (s t : DiskState) (fs gs : Files) → ((c : Files) → since s s.moment c → s.leaves c) → Stays s t fs gs → Looks s t fs gs
stays_looks s t fs gs only stays = record {
  same = stays.same;
  now = stays.crash;
  moments = record {
    each = λ c left. ⊎_elim (λ past. only c (left.0, left.1, past)) (λ here. here.1) (stays.time.nothing_else left.0 c left.2);
    time = stays.time;
  };
}

module _ (s t : DiskState) (file : FileName) (only : OnlyNow s) where
  pub len_looks : (r : Result ℕ Failed) → LenStep s t file r → OnlyLooks s t
  len_looks r step = both_by s.files t.files _ (λ none. silent_on s.files t.files _ none step) (λ fs is.
      let u = tells_on s.files t.files _ fs is step in
      (u.0, u.1, stays_looks s t fs u.0 (told_at s.files fs (λ _. (c : Files) → since s s.moment c → s.leaves c) is only) u.2.0))

  pub read_looks : (at : ℕ) (before after : List ℕ) (r : Result ℕ Failed) → ReadStep s t file at before after r → OnlyLooks s t
  read_looks at before after r step = both_by s.files t.files _ (λ none. silent_on s.files t.files _ none step) (λ fs is.
      let u = tells_on s.files t.files _ fs is step in
      (u.0, u.1, stays_looks s t fs u.0 (told_at s.files fs (λ _. (c : Files) → since s s.moment c → s.leaves c) is only) u.2.0))

  pub sync_looks : (r : Result (Unit {0}) Failed) → SyncStep s t file r → OnlyLooks s t
  sync_looks r step = both_by s.files t.files _ (λ none. silent_on s.files t.files _ none step) (λ fs is.
      let u = tells_on s.files t.files _ fs is step in
      (u.0, u.1, stays_looks s t fs u.0 (told_at s.files fs (λ _. (c : Files) → since s s.moment c → s.leaves c) is only) u.2.0))

-- a run on one file
module _ (s0 : DiskState) (fs : Files) (file : FileName) where
  going_begins : (M Q : List ℕ → Type 0) → ((c : Files) → s0.leaves c → M (file_of file c)) → ((x : List ℕ) → M x → Q x) → ((c : Files) → since s0 s0.moment c → s0.leaves c) → Going s0 s0 fs fs file M Q
  going_begins M Q here imp only = record {
    others = sym (with_own file fs);
    now = λ c left. (c, left, record { others = sym (with_own file c); bytes = here c left });
    moments = record {
      each = λ c left. let now = only c left in (c, now, record { others = sym (with_own file c); bytes = imp (file_of file c) (here c now) });
      time = passes_begin s0 (ButFor file s0.leaves Q);
    };
  }

  going_stays : (s t : DiskState) (gs hs : Files) (M Q : List ℕ → Type 0) → ((x : List ℕ) → M x → Q x) → Going s0 s fs gs file M Q → Stays s t gs hs → Going s0 t fs hs file M Q
  going_stays s t gs hs M Q imp going stays = record {
    others = subst (λ x. x ≡ with_file file fs (file_of file x)) (sym stays.same) going.others;
    now = λ c left. going.now c (stays.crash c left);
    moments = leaves_more s0 s t (ButFor file s0.leaves Q) s.leaves going.moments stays.time (λ c left. but_weakens file s0.leaves M Q imp c (going.now c left));
  }

  joined : (s : DiskState) (M N : List ℕ → Type 0) (R : List ℕ → List ℕ → Type 0) → ((c : Files) → s.leaves c → ButFor file s0.leaves M c) → ((x y : List ℕ) → M x → R x y → N y)
      → (c : Files) → Turned file R s.leaves c → ButFor file s0.leaves N c
  joined s M N R now step c from =
      let but = now from.0 from.1 in (
        but.0,
        but.1,
        record {
          others = from.2.others ∙ ap (λ (x : Files). with_file file x (file_of file c)) but.2.others ∙ with_twice file but.0 (file_of file from.0) (file_of file c);
          bytes = step (file_of file from.0) (file_of file c) but.2.bytes from.2.bytes;
        },
      )

  others_stay : (gs hs : Files) (full : List ℕ) → gs ≡ with_file file fs (file_of file gs) → hs ≡ with_file file gs full → hs ≡ with_file file fs (file_of file hs)
  others_stay gs hs full was is =
      is ∙ ap (λ (x : Files). with_file file x full) was ∙ with_twice file fs (file_of file gs) full
      ∙ ap (λ (x : List ℕ). with_file file fs x) (sym (ap (λ (x : Files). file_of file x) is ∙ own_bytes file gs full))

  going_alters : (s t : DiskState) (gs hs : Files) (M N Q : List ℕ → Type 0) (full : List ℕ) (R S : List ℕ → List ℕ → Type 0) (r : Result (Unit {0}) Failed) → Going s0 s fs gs file M Q → Alters s t gs hs file full R S r
      → ((x y : List ℕ) → M x → R x y → N y) → ((x y : List ℕ) → M x → S x y → N y) → ((x : List ℕ) → N x → Q x) → Going s0 t fs hs file N Q
  going_alters s t gs hs M N Q full R S (Ok x) going alters step_R step_S imp =
      let turned = joined s M N R going.now step_R in
      record {
        others = others_stay gs hs full going.others alters.done;
        now = λ c left. turned c (alters.crash c left);
        moments = leaves_more s0 s t (ButFor file s0.leaves Q) (Turned file R s.leaves) going.moments alters.time (λ c left. but_weakens file s0.leaves N Q imp c (turned c left));
      }
  going_alters s t gs hs M N Q full R S (Err e) going alters step_R step_S imp =
      let turned = joined s M N S going.now step_S in
      record {
        others = others_stay gs hs (file_of file hs) going.others alters.failed.others;
        now = λ c left. turned c (alters.crash_failed c left);
        moments = leaves_more s0 s t (ButFor file s0.leaves Q) (Turned file S s.leaves) going.moments alters.time_failed (λ c left. but_weakens file s0.leaves N Q imp c (turned c left));
      }

-- no call is a run: a crash leaves bytes with M
pub run_begins : (s : DiskState) (file : FileName) (M Q : List ℕ → List ℕ → Type 0) → ((old x : List ℕ) → M old x → Q old x) → OnlyNow s → WhereTold s (λ fs. (c : Files) → s.leaves c → M (file_of file fs) (file_of file c)) → Run s s file M Q
run_begins s file M Q imp only here = both_by s.files s.files _ (λ none. none) (λ fs is.
    let old = file_of file fs in (
      fs,
      is,
      going_begins s fs file (M old) (Q old) (told_at s.files fs (λ f. (c : Files) → s.leaves c → M (file_of file f) (file_of file c)) is here) (imp old)
          (told_at s.files fs (λ _. (c : Files) → since s s.moment c → s.leaves c) is only),
    ))

-- where nothing is pending, a crash leaves the old bytes, which have F
pub run_begins_settled : (s : DiskState) (file : FileName) (F : List ℕ → Type 0) (Q : List ℕ → List ℕ → Type 0) → ((old : List ℕ) → F old → Q old old) → OnlyNow s → IsSettled s file → WhereTold s (λ fs. F (file_of file fs))
    → Run s s file (λ old x. F old × (x ≡ old)) Q
run_begins_settled s file F Q start only settled facts = both_by s.files s.files _ (λ none. none) (λ fs is.
    let old = file_of file fs in
    let fact = told_at s.files fs (λ f. F (file_of file f)) is facts in
    let same = told_at s.files fs (λ f. (c : Files) → s.leaves c → file_of file c ≡ file_of file f) is settled in (
      fs,
      is,
      going_begins s fs file (λ x. F old × (x ≡ old)) (Q old) (λ c left. (fact, same c left)) (λ x m. subst (λ y. Q old y) (sym m.1) (start old m.0))
          (told_at s.files fs (λ _. (c : Files) → since s s.moment c → s.leaves c) is only),
    ))

-- one call more on the same file
module _ (s0 s t : DiskState) (file : FileName) where
  pub run_len : (r : Result ℕ Failed) (M Q : List ℕ → List ℕ → Type 0) → ((old x : List ℕ) → M old x → Q old x) → Run s0 s file M Q → LenStep s t file r → Run s0 t file M Q
  run_len r M Q imp run step = both_by s0.files t.files _ (λ none. silent_on s.files t.files _ (silent_on s0.files s.files _ none run) step) (λ fs is.
      let u = tells_on s0.files s.files _ fs is run in
      let v = tells_on s.files t.files _ u.0 u.1 step in
      let old = file_of file fs in
      (v.0, v.1, going_stays s0 fs file s t u.0 v.0 (M old) (Q old) (imp old) u.2 v.2.0))

  pub run_read : (at : ℕ) (before after : List ℕ) (r : Result ℕ Failed) (M Q : List ℕ → List ℕ → Type 0) → ((old x : List ℕ) → M old x → Q old x) → Run s0 s file M Q → ReadStep s t file at before after r → Run s0 t file M Q
  run_read at before after r M Q imp run step = both_by s0.files t.files _ (λ none. silent_on s.files t.files _ (silent_on s0.files s.files _ none run) step) (λ fs is.
      let u = tells_on s0.files s.files _ fs is run in
      let v = tells_on s.files t.files _ u.0 u.1 step in
      let old = file_of file fs in
      (v.0, v.1, going_stays s0 fs file s t u.0 v.0 (M old) (Q old) (imp old) u.2 v.2.0))

  pub run_sync : (r : Result (Unit {0}) Failed) (M Q : List ℕ → List ℕ → Type 0) → ((old x : List ℕ) → M old x → Q old x) → Run s0 s file M Q → SyncStep s t file r → Run s0 t file M Q
  run_sync r M Q imp run step = both_by s0.files t.files _ (λ none. silent_on s.files t.files _ (silent_on s0.files s.files _ none run) step) (λ fs is.
      let u = tells_on s0.files s.files _ fs is run in
      let v = tells_on s.files t.files _ u.0 u.1 step in
      let old = file_of file fs in
      (v.0, v.1, going_stays s0 fs file s t u.0 v.0 (M old) (Q old) (imp old) u.2 v.2.0))

  -- a write over bytes that read with F
  pub run_write : (at : ℕ) (bytes : List ℕ) (r : Result (Unit {0}) Failed) (F : List ℕ → Type 0) (M N Q : List ℕ → List ℕ → Type 0) → WhereTold s (λ gs. F (file_of file gs))
      → ((old now x y : List ℕ) → F now → M old x → TornWrite now at bytes x y → N old y) → ((old x : List ℕ) → N old x → Q old x) → Run s0 s file M Q → WriteStep s t file at bytes r → Run s0 t file N Q
  run_write at bytes r F M N Q facts torn imp run step = both_by s0.files t.files _ (λ none. silent_on s.files t.files _ (silent_on s0.files s.files _ none run) step) (λ fs is.
      let u = tells_on s0.files s.files _ fs is run in
      let v = tells_on s.files t.files _ u.0 u.1 step in
      let old = file_of file fs in
      let now = file_of file u.0 in
      let fact : F now = told_at s.files u.0 (λ f. F (file_of file f)) u.1 facts in (
        v.0,
        v.1,
        going_alters s0 fs file s t u.0 v.0 (M old) (N old) (Q old) (written now at bytes) (TornWrite now at bytes) (TornWrite now at bytes) r u.2 v.2.0
            (λ x y m w. torn old now x y fact m w) (λ x y m w. torn old now x y fact m w) (imp old),
      ))

  pub run_cut : (len : ℕ) (r : Result (Unit {0}) Failed) (M N Q : List ℕ → List ℕ → Type 0) → ((old x y : List ℕ) → M old x → Shortened len x y → N old y) → ((old x y : List ℕ) → M old x → Marred len x y → N old y)
      → ((old x : List ℕ) → N old x → Q old x) → Run s0 s file M Q → CutStep s t file len r → Run s0 t file N Q
  run_cut len r M N Q short marred imp run step = both_by s0.files t.files _ (λ none. silent_on s.files t.files _ (silent_on s0.files s.files _ none run) step) (λ fs is.
      let u = tells_on s0.files s.files _ fs is run in
      let v = tells_on s.files t.files _ u.0 u.1 step in
      let old = file_of file fs in (
        v.0,
        v.1,
        going_alters s0 fs file s t u.0 v.0 (M old) (N old) (Q old) (take len (file_of file u.0)) (Shortened len) (Marred len) r u.2 v.2.0 (short old) (marred old) (imp old),
      ))

-- a run on one file touches that file only, and the other way round
pub run_touches : (s t : DiskState) (file : FileName) (M Q : List ℕ → List ℕ → Type 0) → ((old x : List ℕ) → M old x → Q old x) → Run s t file M Q → TouchesOnly s t file Q
run_touches s t file M Q imp run = both_by s.files t.files _ (λ none. silent_on s.files t.files _ none run) (λ fs is.
    let u = tells_on s.files t.files _ fs is run in
    let old = file_of file fs in
    (u.0, u.1, record { others = u.2.others; now = λ c left. but_weakens file s.leaves (M old) (Q old) (imp old) c (u.2.now c left); moments = u.2.moments }))

pub touches_run : (s t : DiskState) (file : FileName) (Q : List ℕ → List ℕ → Type 0) → TouchesOnly s t file Q → Run s t file Q Q
touches_run s t file Q run = both_by s.files t.files _ (λ none. silent_on s.files t.files _ none run) (λ fs is.
    let u = tells_on s.files t.files _ fs is run in
    (u.0, u.1, record { others = u.2.others; now = u.2.now; moments = u.2.moments }))

touches_weakened : (s t : DiskState) (fs gs : Files) (file : FileName) (Q R : List ℕ → Type 0) → ((x : List ℕ) → Q x → R x) → Touches s t fs gs file Q → Touches s t fs gs file R
touches_weakened s t fs gs file Q R imp run = record {
  others = run.others;
  now = λ c left. but_weakens file s.leaves Q R imp c (run.now c left);
  moments = leaves_weakens s t (ButFor file s.leaves Q) (ButFor file s.leaves R) (but_weakens file s.leaves Q R imp) run.moments;
}

touches_joined : (s t u : DiskState) (fs gs hs : Files) (file : FileName) (Q : List ℕ → Type 0) → Touches s t fs gs file Q → Touches t u gs hs file Q → Touches s u fs hs file Q
touches_joined s t u fs gs hs file Q first second = record {
  others = second.others ∙ ap (λ (x : Files). with_file file x (file_of file hs)) first.others ∙ with_twice file fs (file_of file gs) (file_of file hs);
  now = λ c left. but_joins file s.leaves t.leaves Q Q first.now c (second.now c left);
  moments = leaves_joins s t u (ButFor file s.leaves Q) first.moments (leaves_weakens t u (ButFor file t.leaves Q) (ButFor file s.leaves Q) (but_joins file s.leaves t.leaves Q Q first.now) second.moments);
}

-- what holds of the bytes all along, said more weakly by a fact F of the old ones
pub touches_weaken : (s t : DiskState) (file : FileName) (F : List ℕ → Type 0) (Q R : List ℕ → List ℕ → Type 0) → WhereTold s (λ fs. F (file_of file fs)) → ((old x : List ℕ) → F old → Q old x → R old x)
    → TouchesOnly s t file Q → TouchesOnly s t file R
touches_weaken s t file F Q R facts imp run = both_by s.files t.files _ (λ none. silent_on s.files t.files _ none run) (λ fs is.
    let u = tells_on s.files t.files _ fs is run in
    let old = file_of file fs in
    let fact : F old = told_at s.files fs (λ f. F (file_of file f)) is facts in
    (u.0, u.1, touches_weakened s t fs u.0 file (Q old) (R old) (λ x q. imp old x fact q) u.2))

-- two runs on one file are one, where what the second says of the bytes is enough whatever the old ones were
pub touches_join : (s t u : DiskState) (file : FileName) (Q : List ℕ → List ℕ → Type 0) (R : List ℕ → Type 0) → ((old x : List ℕ) → R x → Q old x) → TouchesOnly s t file Q → TouchesOnly t u file (λ _ x. R x)
    → TouchesOnly s u file Q
touches_join s t u file Q R imp first second = both_by s.files u.files _ (λ none. silent_on t.files u.files _ (silent_on s.files t.files _ none first) second) (λ fs is.
    let a = tells_on s.files t.files _ fs is first in
    let b = tells_on t.files u.files _ a.0 a.1 second in
    let old = file_of file fs in
    (b.0, b.1, touches_joined s t u fs a.0 b.0 file (Q old) a.2 (touches_weakened t u a.0 b.0 file R (Q old) (imp old) b.2)))

-- what reads give of the file after two runs
pub now_joins : (s t u : DiskState) (file : FileName) (g h : List ℕ → List ℕ) → HasNow s t file g → HasNow t u file h → HasNow s u file (λ old. h (g old))
now_joins s t u file g h first second = both_by s.files u.files _ (λ none. silent_on t.files u.files _ (silent_on s.files t.files _ none first) second) (λ fs is.
    let a = tells_on s.files t.files _ fs is first in
    let b = tells_on t.files u.files _ a.0 a.1 second in
    let old = file_of file fs in
    let bytes : file_of file a.0 ≡ g old = ap (λ (f : Files). file_of file f) a.2.0 ∙ own_bytes file fs (g old) in
    (b.0, b.1, (b.2.0 ∙ ap (λ (l : List ℕ). with_file file a.0 (h l)) bytes ∙ ap (λ (f : Files). with_file file f (h (g old))) a.2.0 ∙ with_twice file fs (g old) (h (g old)), b.2.1)))

-- the same said otherwise
pub now_is : (s t : DiskState) (file : FileName) (g h : List ℕ → List ℕ) → ((old : List ℕ) → g old ≡ h old) → HasNow s t file g → HasNow s t file h
now_is s t file g h same now = both_by s.files t.files _ (λ none. silent_on s.files t.files _ none now) (λ fs is.
    let a = tells_on s.files t.files _ fs is now in
    (a.0, a.1, (a.2.0 ∙ ap (λ (l : List ℕ). with_file file fs l) (same (file_of file fs)), a.2.1)))

-- and what follows of the file's bytes
pub now_has : (s t : DiskState) (file : FileName) (g : List ℕ → List ℕ) (P : List ℕ → Type 0) → ((old : List ℕ) → P (g old)) → HasNow s t file g → WhereTold t (λ gs. P (file_of file gs))
now_has s t file g P holds now = second_told s.files t.files (λ gs. P (file_of file gs)) (both_by s.files t.files _ (λ none. silent_on s.files t.files _ none now) (λ fs is.
    let a = tells_on s.files t.files _ fs is now in
    let bytes : file_of file a.0 ≡ g (file_of file fs) = ap (λ (f : Files). file_of file f) a.2.0 ∙ own_bytes file fs (g (file_of file fs)) in
    (a.0, a.1, subst P (sym bytes) (holds (file_of file fs)))))

-- and nothing is pending in it
pub now_settled : (s t : DiskState) (file : FileName) (g : List ℕ → List ℕ) → HasNow s t file g → IsSettled t file
now_settled s t file g now = second_told s.files t.files (λ gs. (c : Files) → t.leaves c → file_of file c ≡ file_of file gs) (both_by s.files t.files _ (λ none. silent_on s.files t.files _ none now) (λ fs is.
    let a = tells_on s.files t.files _ fs is now in
    (a.0, a.1, a.2.1)))

-- the same for a test of the bytes by the old ones: calls on one file alone, at each moment of which a crash leaves bytes that pass it
abbrev pub TouchesPassing : DiskState → DiskState → FileName → (List ℕ → List ℕ → Bool) → Type 0
TouchesPassing old new file test = TouchesOnly old new file (λ before x. IsTrue (test before x))

-- this turns bytes that pass a test into bytes that do
abbrev pub KeepsPassing : (List ℕ → List ℕ → Bool) → (List ℕ → List ℕ → Type 0) → Type 0
KeepsPassing test change = (old x y : List ℕ) → IsTrue (test old x) → change x y → IsTrue (test old y)
