-- What attaching or starting a store shows of its disk, and leaves there.
use Rattle.std.proofs.Common.{◌≡◌, inl, inr, ℕ, List, refl, sym, ◌∙◌, ap, subst}
use Rattle.std.specs.declared.option.Option.{Option}
use Rattle.std.specs.declared.option.Option.TheVariants.{None}
use Rattle.porch_edge.specs.declared.disk.FileName.TheVariants.{CkA, CkB}
use Rattle.porch_edge.specs.Files.{Files, with_file}
use Rattle.porch_edge.specs.Disk.{DiskState, WhereTold, ButFor, IsSettled, OnlyLooks, TouchesOnly, HasNow}
use Rattle.porch_edge.specs.Told.{when_told, told_at, tells_on, silent_on, both_by, second_told}
use Rattle.porch_edge.specs.Runs.{leaves_weakens, leaves_joins}
use Rattle.porch_store.specs.declared.newest.Newest.{Newest}
use Rattle.porch_store.specs.declared.newest.Newest.TheVariants.{Neither}
use Rattle.porch_store.specs.Checkpoints.{IsOpen, IsNewest, newest_number}
use Rattle.porch_store.specs.inside.Numbers.{HasNumber}
use Rattle.porch_store.specs.Taken.{OldOrShut, Shuts, ButShut, OnlyShuts}
use Rattle.porch_store.specs.declared.store.Store.{Store}
use Rattle.porch_store.specs.Stores.{newest_known, number_known, Knows, IsReady}

-- a store with what is known is ready
pub ready_is : (store : Store) (s : DiskState) (which : Newest) (known : Option ℕ) → newest_known store ≡ which → number_known store ≡ known → WhereTold s (Knows which known s) → IsReady store s
ready_is store s which known one two ready = when_told s.files _ (λ fs is.
    let knows = told_at s.files fs (Knows which known s) is ready in
    subst (λ (w : Newest). Knows w (number_known store) s fs) (sym one) (subst (λ (k : Option ℕ). Knows which k s fs) (sym two) knows))

-- two looks at what the files are numbered, with nothing pending in them
pub attached : (s0 s1 s2 : DiskState) (which : Newest) (known first second : Option ℕ) → ((fs : Files) → HasNumber fs.ck_a first → HasNumber fs.ck_b second → IsNewest which fs)
    → ((fs : Files) → HasNumber fs.ck_a first → HasNumber fs.ck_b second → known ≡ newest_number which fs) → IsSettled s0 CkA → IsSettled s0 CkB → WhereTold s0 (λ fs. HasNumber fs.ck_a first) → OnlyLooks s0 s1 → WhereTold s1 (λ fs. HasNumber fs.ck_b second) → OnlyLooks s1 s2 → WhereTold s2 (Knows which known s2)
attached s0 s1 s2 which known first second picks counts settled_a settled_b number_a look_a number_b look_b =
    second_told s0.files s2.files (Knows which known s2) (both_by s0.files s2.files _ (λ none. silent_on s1.files s2.files _ (silent_on s0.files s1.files _ none look_a) look_b) (λ fs is.
    let a = tells_on s0.files s1.files _ fs is look_a in
    let b = tells_on s1.files s2.files _ a.0 a.1 look_b in
    let one = told_at s0.files fs (λ f. HasNumber f.ck_a first) is number_a in
    let two = told_at s1.files a.0 (λ f. HasNumber f.ck_b second) a.1 number_b in
    let here_a = told_at s0.files fs (λ f. (c : Files) → s0.leaves c → c.ck_a ≡ f.ck_a) is settled_a in
    let here_b = told_at s0.files fs (λ f. (c : Files) → s0.leaves c → c.ck_b ≡ f.ck_b) is settled_b in
    let same : b.0 ≡ fs = b.2.same ∙ a.2.same in
    let left_before : (z : Files) → s2.leaves z → s0.leaves z = λ z left. a.2.now z (b.2.now z left) in
    let two_here = subst (λ (f : Files). HasNumber f.ck_b second) a.2.same two in (
      b.0,
      b.1,
      record {
        newest = subst (λ (f : Files). IsNewest which f) (sym same) (picks fs one two_here);
        number = subst (λ (f : Files). known ≡ newest_number which f) (sym same) (counts fs one two_here);
        settled_a = λ z left. here_a z (left_before z left) ∙ ap (λ (f : Files). f.ck_a) (sym same);
        settled_b = λ z left. here_b z (left_before z left) ∙ ap (λ (f : Files). f.ck_b) (sym same);
      },
    )))

-- files that are closed one after another
old_or_shut_twice : (x y z : List ℕ) → OldOrShut x y → OldOrShut y z → OldOrShut x z
old_or_shut_twice x y z first (inl same) = subst (λ (l : List ℕ). OldOrShut x l) (sym same) first
old_or_shut_twice x y z first (inr shut) = inr shut

shuts_twice : (e d c : Files) → Shuts e d → Shuts d c → Shuts e c
shuts_twice e d c first second = record {
  others = second.others ∙ ap (λ (f : Files). with_file CkB (with_file CkA f c.ck_a) c.ck_b) first.others;
  a = old_or_shut_twice e.ck_a d.ck_a c.ck_a first.a second.a;
  b = old_or_shut_twice e.ck_b d.ck_b c.ck_b first.b second.b;
}

shuts_none : (c : Files) → Shuts c c
shuts_none c = record { others = refl; a = inl refl; b = inl refl }

but_shut_twice : (s t : DiskState) → ((c : Files) → t.leaves c → ButShut s.leaves c) → (c : Files) → ButShut t.leaves c → ButShut s.leaves c
but_shut_twice s t now c but = let from = now but.0 but.1 in (from.0, from.1, shuts_twice from.0 but.0 c from.2 but.2)

pub shuts_join : (s t u : DiskState) → OnlyShuts s t → OnlyShuts t u → OnlyShuts s u
shuts_join s t u first second = both_by s.files u.files _ (λ none. silent_on t.files u.files _ (silent_on s.files t.files _ none first) second) (λ fs is.
    let a = tells_on s.files t.files _ fs is first in
    let b = tells_on t.files u.files _ a.0 a.1 second in (
      b.0,
      b.1,
      record {
        reads = shuts_twice fs a.0 b.0 a.2.reads b.2.reads;
        now = λ c left. but_shut_twice s t a.2.now c (b.2.now c left);
        moments = leaves_joins s t u (ButShut s.leaves) a.2.moments (leaves_weakens t u (ButShut t.leaves) (ButShut s.leaves) (but_shut_twice s t a.2.now) b.2.moments);
      },
    ))

pub shuts_look : (s t : DiskState) → OnlyLooks s t → OnlyShuts s t
shuts_look s t look = both_by s.files t.files _ (λ none. silent_on s.files t.files _ none look) (λ fs is.
    let a = tells_on s.files t.files _ fs is look in (
      a.0,
      a.1,
      record {
        reads = subst (λ (f : Files). Shuts fs f) (sym a.2.same) (shuts_none fs);
        now = λ c left. (c, a.2.now c left, shuts_none c);
        moments = leaves_weakens s t s.leaves (ButShut s.leaves) (λ c left. (c, left, shuts_none c)) a.2.moments;
      },
    ))

shut_a : (d c : Files) → c ≡ with_file CkA d c.ck_a → OldOrShut d.ck_a c.ck_a → Shuts d c
shut_a d c others bytes =
    let same : c.ck_b ≡ d.ck_b = ap (λ (f : Files). f.ck_b) others in
    record { others = others ∙ ap (λ (l : List ℕ). with_file CkB (with_file CkA d c.ck_a) l) (sym same); a = bytes; b = inl same }

shut_b : (d c : Files) → c ≡ with_file CkB d c.ck_b → OldOrShut d.ck_b c.ck_b → Shuts d c
shut_b d c others bytes =
    let same : c.ck_a ≡ d.ck_a = ap (λ (f : Files). f.ck_a) others in
    record { others = others ∙ ap (λ (l : List ℕ). with_file CkB (with_file CkA d l) c.ck_b) (sym same); a = inl same; b = bytes }

module _ (s t : DiskState) (law : WhereTold t (λ gs. t.leaves gs)) where
  pub shuts_a : IsSettled s CkA → TouchesOnly s t CkA OldOrShut → OnlyShuts s t
  shuts_a settled run = both_by s.files t.files _ (λ none. silent_on s.files t.files _ none run) (λ fs is.
      let a = tells_on s.files t.files _ fs is run in
      let here = told_at s.files fs (λ f. (c : Files) → s.leaves c → c.ck_a ≡ f.ck_a) is settled in
      let each : (c : Files) → ButFor CkA s.leaves (OldOrShut fs.ck_a) c → ButShut s.leaves c = λ c but. (
        but.0,
        but.1,
        shut_a but.0 c but.2.others (subst (λ (l : List ℕ). OldOrShut l c.ck_a) (sym (here but.0 but.1)) but.2.bytes),
      ) in
      let read = a.2.now a.0 (told_at t.files a.0 (λ g. t.leaves g) a.1 law) in (
        a.0,
        a.1,
        record { reads = shut_a fs a.0 a.2.others read.2.bytes; now = λ c left. each c (a.2.now c left); moments = leaves_weakens s t (ButFor CkA s.leaves (OldOrShut fs.ck_a)) (ButShut s.leaves) each a.2.moments },
      ))

  pub shuts_b : IsSettled s CkB → TouchesOnly s t CkB OldOrShut → OnlyShuts s t
  shuts_b settled run = both_by s.files t.files _ (λ none. silent_on s.files t.files _ none run) (λ fs is.
      let a = tells_on s.files t.files _ fs is run in
      let here = told_at s.files fs (λ f. (c : Files) → s.leaves c → c.ck_b ≡ f.ck_b) is settled in
      let each : (c : Files) → ButFor CkB s.leaves (OldOrShut fs.ck_b) c → ButShut s.leaves c = λ c but. (
        but.0,
        but.1,
        shut_b but.0 c but.2.others (subst (λ (l : List ℕ). OldOrShut l c.ck_b) (sym (here but.0 but.1)) but.2.bytes),
      ) in
      let read = a.2.now a.0 (told_at t.files a.0 (λ g. t.leaves g) a.1 law) in (
        a.0,
        a.1,
        record { reads = shut_b fs a.0 a.2.others read.2.bytes; now = λ c left. each c (a.2.now c left); moments = leaves_weakens s t (ButFor CkB s.leaves (OldOrShut fs.ck_b)) (ButShut s.leaves) each a.2.moments },
      ))

-- a call on CkA leaves CkB settled
pub b_stays : (s t : DiskState) (Q : List ℕ → List ℕ → Type 0) → IsSettled s CkB → TouchesOnly s t CkA Q → IsSettled t CkB
b_stays s t Q settled run = second_told s.files t.files (λ gs. (c : Files) → t.leaves c → c.ck_b ≡ gs.ck_b) (both_by s.files t.files _ (λ none. silent_on s.files t.files _ none run) (λ fs is.
    let a = tells_on s.files t.files _ fs is run in
    let here = told_at s.files fs (λ f. (c : Files) → s.leaves c → c.ck_b ≡ f.ck_b) is settled in
    let read : a.0.ck_b ≡ fs.ck_b = ap (λ (f : Files). f.ck_b) a.2.others in
    (a.0, a.1, λ c left. let but = a.2.now c left in ap (λ (f : Files). f.ck_b) but.2.others ∙ here but.0 but.1 ∙ sym read)))

-- both closed one after the other: none is the newest
pub started : (s t u : DiskState) (g : List ℕ → List ℕ) → ((old : List ℕ) → ¬ IsOpen (g old)) → HasNow s t CkA g → HasNow t u CkB g → TouchesOnly t u CkB OldOrShut → WhereTold u (Knows Neither None u)
started s t u g shut now_a now_b run = second_told s.files u.files (Knows Neither None u) (both_by s.files u.files _ (λ none. silent_on t.files u.files _ (silent_on s.files t.files _ none now_a) now_b) (λ fs is.
    let a = tells_on s.files t.files _ fs is now_a in
    let b = tells_on t.files u.files _ a.0 a.1 now_b in
    let r = tells_on t.files u.files _ a.0 a.1 run in
    let a_is : a.0.ck_a ≡ g fs.ck_a = ap (λ (f : Files). f.ck_a) a.2.0 in
    let same : b.0.ck_a ≡ a.0.ck_a = ap (λ (f : Files). f.ck_a) b.2.0 in
    let b_is : b.0.ck_b ≡ g a.0.ck_b = ap (λ (f : Files). f.ck_b) b.2.0 in (
      b.0,
      b.1,
      record {
        newest = (subst (λ (l : List ℕ). ¬ IsOpen l) (sym (same ∙ a_is)) (shut fs.ck_a), subst (λ (l : List ℕ). ¬ IsOpen l) (sym b_is) (shut a.0.ck_b));
        number = refl;
        settled_a = λ c left. let but = r.2.now c left in ap (λ (f : Files). f.ck_a) but.2.others ∙ a.2.1 but.0 but.1 ∙ sym same;
        settled_b = λ c left. b.2.1 c left;
      },
    )))
