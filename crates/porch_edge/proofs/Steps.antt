-- What a kept call makes of what a disk in memory tells.
use Rattle.std.proofs.Common.{◌≡◌, ◌≢◌, ◌==◌, inl, inr, ℕ, ◌+◌, ◌^◌, ◌≤◌, List, ◌∷◌, length, true, false, Vec, refl, sym, ◌∙◌, ap, subst, arith, if◌then◌else◌, OnOk, Result, Ok, Err}
use Rattle.std.proofs.lemmas.Bool.{cases_lt}
use Rattle.std.specs.declared.alloc.Global.{Global}
use Rattle.porch_edge.specs.declared.disk.FileName.{FileName}
use Rattle.porch_edge.specs.declared.memory_calls.Change.{Change}
use Rattle.porch_edge.specs.declared.memory_calls.Change.TheVariants.{Nothing, Synced}
use Rattle.porch_edge.specs.declared.memory_calls.Call.{Call}
use Rattle.porch_edge.specs.Files.{Files, file_of, with_file}
use Rattle.porch_edge.specs.Disk.{Passes, Stays, Keeps, Follows}
use Rattle.porch_edge.specs.Calls.{index_of, change_on, bytes_before, LeavesBy, FileLeaves, Leaves, files_before, LeftAt, memory_state}
use Rattle.porch_edge.specs.inside.Kept.{Did, FileKept, Kept, last_moment}
use Rattle.porch_edge.specs.inside.MemoryLaws.{reads, now_left}
use Rattle.porch_edge.specs.OneFile.{own_bytes}
use Rattle.porch_edge.proofs.Index.{other_bytes, same_test, other_test, with_back, by_file}

pub in_any : {T E P : Type 0} (r : Result T E) → P → OnOk r P
in_any (Ok x) p = p
in_any (Err e) p = tt

module _ (g : FileName) (change : Change) (before : Vec ℕ Global) (moment : ℕ) where
  abbrev pub the_call : Call
  the_call = record { file = g; change = change; before = before; moment = moment }

  pub on_own : change_on g the_call ≡ change
  on_own = rw (same_test g) refl

  pub on_other : (f : FileName) → index_of f ≢ index_of g → change_on f the_call ≡ Nothing
  on_other f other = rw (other_test f g other) refl

  module _ (log : List Call) (now : List ℕ) where
    abbrev pub leaves_by : FileName → List ℕ → Change → Type 0
    leaves_by f c x = LeavesBy x now (FileLeaves f (bytes_before x before.items now) log) c

    pub leaves_own : (c : List ℕ) → FileLeaves g now (the_call ∷ log) c → leaves_by g c change
    leaves_own c left = subst (leaves_by g c) on_own left

    pub own_leaves : (c : List ℕ) → leaves_by g c change → FileLeaves g now (the_call ∷ log) c
    own_leaves c left = subst (leaves_by g c) (sym on_own) left

    pub leaves_other : (f : FileName) → index_of f ≢ index_of g → (c : List ℕ) → FileLeaves f now (the_call ∷ log) c → FileLeaves f now log c
    leaves_other f other c left = subst (leaves_by f c) (on_other f other) left

    pub other_leaves : (f : FileName) → index_of f ≢ index_of g → (c : List ℕ) → FileLeaves f now log c → FileLeaves f now (the_call ∷ log) c
    other_leaves f other c left = subst (leaves_by f c) (sym (on_other f other)) left

    abbrev pub kept_by : FileName → Change → Type 0
    kept_by f x = Did x before.items now × FileKept f (bytes_before x before.items now) log

    pub own_kept : kept_by g change → FileKept g now (the_call ∷ log)
    own_kept kept = subst (kept_by g) (sym on_own) kept

    pub other_kept : (f : FileName) → index_of f ≢ index_of g → FileKept f now log → FileKept f now (the_call ∷ log)
    other_kept f other kept = let both : kept_by f Nothing = (tt, kept) in subst (kept_by f) (sym (on_other f other)) both

-- time goes on by a call that is kept
pub passes : (fs gs : Files) (log : List Call) (call : Call) (was : ℕ) (P : Files → Type 0) → files_before call gs ≡ fs → call.moment ≡ was + 1 → ((c : Files) → Leaves gs (call ∷ log) c → P c)
    → Passes (memory_state fs log was) (memory_state gs (call ∷ log) call.moment) P
passes fs gs log call was P same next here = record {
  later = λ clock. omega (arith, next);
  nothing_else = λ m c left. elim left.2 [
    | inl now ↦ inr ((λ clock. omega (arith, next, now.0, left.0 clock), λ by. absurd (omega (arith, next, now.0, by 0))), here c now.1)
    | inr past ↦ inl (left.0, omega (arith, next, past.0), subst (λ f. LeftAt f log (m 0) c) same past.1)
  ];
  keeps = λ m c left. (left.0, omega (arith, next, left.1), inr (omega (arith, next, left.1), subst (λ f. LeftAt f log (m 0) c) (sym same) left.2));
}

-- or by one that isn't
pub passes_none : (fs : Files) (log : List Call) (was now : ℕ) → was ≤ now → last_moment log ≤ was → Passes (memory_state fs log was) (memory_state fs log now) (Leaves fs log)
passes_none fs log was now on past = record {
  later = λ clock. on;
  nothing_else = λ m c left. elim (cases_lt was (m 0)) [
    | inl lt ↦ inr ((λ clock. omega (arith, lt, left.0 clock), λ by. absurd (omega (arith, lt, by 0))), now_left fs log (m 0) c (omega (arith, lt, past)) left.2)
    | inr le ↦ inl (left.0, le, left.2)
  ];
  keeps = λ m c left. (left.0, omega (arith, on, left.1), left.2);
}

pub stays_none : (fs : Files) (log : List Call) (was now : ℕ) → was ≤ now → last_moment log ≤ was → Stays (memory_state fs log was) (memory_state fs log now) fs fs
stays_none fs log was now on past = record { same = refl; crash = λ c left. left; time = passes_none fs log was now on past }

-- a call that has changed nothing
nothing_on : (g f : FileName) (before : Vec ℕ Global) (moment : ℕ) → change_on f (the_call g Nothing before moment) ≡ Nothing
nothing_on g f before moment = elim (index_of f == index_of g) as (λ b. (if b then Nothing else Nothing) ≡ Nothing) [ true ↦ refl | false ↦ refl ]

pub keeps_nothing : (fs : Files) (log : List Call) (g : FileName) (before : Vec ℕ Global) (moment : ℕ) → Keeps (Leaves fs log) (Leaves fs (the_call g Nothing before moment ∷ log))
keeps_nothing fs log g before moment c left = λ f. subst (leaves_by g Nothing before moment log (file_of f fs) f (file_of f c)) (nothing_on g f before moment) (left f)

pub kept_nothing : (fs : Files) (log : List Call) (g : FileName) (before : Vec ℕ Global) (moment : ℕ) → Kept fs log → Kept fs (the_call g Nothing before moment ∷ log)
kept_nothing fs log g before moment kept = record {
  within = kept.within;
  each = λ f. let both : kept_by g Nothing before moment log (file_of f fs) f Nothing = (tt, kept.each f) in subst (kept_by g Nothing before moment log (file_of f fs) f) (sym (nothing_on g f before moment)) both;
}

-- a sync
pub durable_synced : (fs : Files) (log : List Call) (g : FileName) (before : Vec ℕ Global) (moment : ℕ) (c : Files) → Leaves fs (the_call g Synced before moment ∷ log) c → file_of g c ≡ file_of g fs
durable_synced fs log g before moment c left = leaves_own g Synced before moment log (file_of g fs) (file_of g c) (left g)

pub keeps_synced : (fs : Files) (log : List Call) (g : FileName) (before : Vec ℕ Global) (moment : ℕ) → Kept fs log → Keeps (Leaves fs log) (Leaves fs (the_call g Synced before moment ∷ log))
keeps_synced fs log g before moment kept c left = by_file g (λ f. FileLeaves f (file_of f fs) log (file_of f c))
    (subst (λ x. FileLeaves g (file_of g fs) log x) (sym (durable_synced fs log g before moment c left)) (reads g (file_of g fs) log (kept.each g)))
    (λ f other. leaves_other g Synced before moment log (file_of f fs) f other (file_of f c) (left f))

pub kept_synced : (fs : Files) (log : List Call) (g : FileName) (before : Vec ℕ Global) (moment : ℕ) → Kept fs log → Kept fs (the_call g Synced before moment ∷ log)
kept_synced fs log g before moment kept = record {
  within = kept.within;
  each = by_file g (λ f. FileKept f (file_of f fs) (the_call g Synced before moment ∷ log))
      (own_kept g Synced before moment log (file_of g fs) (tt, kept.each g))
      (λ f other. other_kept g Synced before moment log (file_of f fs) f other (kept.each f));
}

-- other bytes in one file, with those from before kept
module _ (fs : Files) (log : List Call) (g : FileName) (before : Vec ℕ Global) (moment : ℕ) (bytes : List ℕ) (change : Change)
    (had : before.items ≡ file_of g fs) (kept : Kept fs log) (keeps_bytes : (x : List ℕ) → bytes_before change before.items x ≡ before.items) where
  abbrev gs : Files
  gs = with_file g fs bytes

  abbrev log_after : List Call
  log_after = the_call g change before moment ∷ log

  pub kept_changed : Did change before.items bytes → length bytes ≤ 2 ^ 62 → Kept gs log_after
  kept_changed did short = record {
    within = by_file g (λ f. length (file_of f gs) ≤ 2 ^ 62)
        (subst (λ (x : List ℕ). length x ≤ 2 ^ 62) (sym (own_bytes g fs bytes)) short)
        (λ f other. subst (λ (x : List ℕ). length x ≤ 2 ^ 62) (sym (other_bytes f g fs bytes other)) (kept.within f));
    each = by_file g (λ f. FileKept f (file_of f gs) log_after)
        (subst (λ x. FileKept g x log_after) (sym (own_bytes g fs bytes))
        (own_kept g change before moment log bytes (did, subst (λ x. FileKept g x log) (sym had ∙ sym (keeps_bytes bytes)) (kept.each g))))
        (λ f other. subst (λ x. FileKept f x log_after) (sym (other_bytes f g fs bytes other)) (other_kept g change before moment log (file_of f fs) f other (kept.each f)));
  }

  pub back : files_before (the_call g change before moment) gs ≡ fs
  back = ap (λ x. with_file g gs x) (keeps_bytes (file_of g gs) ∙ had) ∙ with_back g fs bytes

  pub follows : (R : List ℕ → List ℕ → Type 0) → ((past : List ℕ → Type 0) (c : List ℕ) → past before.items → LeavesBy change (file_of g gs) past c → (d : List ℕ) × past d × R d c)
      → Follows g R (Leaves fs log) (Leaves gs log_after)
  follows R step c left =
      let own : FileLeaves g before.items log before.items = reads g before.items log (subst (λ x. FileKept g x log) (sym had) (kept.each g)) in
      let past_is = keeps_bytes (file_of g gs) in
      let from = step (FileLeaves g before.items log) (file_of g c) own
      (subst (λ b. LeavesBy change (file_of g gs) (FileLeaves g b log) (file_of g c)) past_is (leaves_own g change before moment log (file_of g gs) (file_of g c) (left g))) in
      let d = with_file g c from.0 in
      let bytes_are = own_bytes g c from.0 in (
        d,
        by_file g (λ f. FileLeaves f (file_of f fs) log (file_of f d))
            (subst (λ x. FileLeaves g x log (file_of g d)) had (subst (λ x. FileLeaves g before.items log x) (sym bytes_are) from.1))
            (λ f other. subst (λ x. FileLeaves f (file_of f fs) log x) (sym (other_bytes f g c from.0 other))
            (subst (λ x. FileLeaves f x log (file_of f c)) (other_bytes f g fs bytes other) (leaves_other g change before moment log (file_of f gs) f other (file_of f c) (left f)))),
        record { others = sym (with_back g c from.0); bytes = subst (λ x. R x (file_of g c)) (sym bytes_are) from.2 },
      )
