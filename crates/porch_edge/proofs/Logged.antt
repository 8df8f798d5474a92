-- A call that was kept with the bytes from before it.
use Rattle.std.proofs.Common.{◌≡◌, ◌≢◌, ◌⊎◌, inl, inr, ℕ, ◌+◌, ◌^◌, ◌<◌, ◌≤◌, List, [], ◌∷◌, length, take, min, refl, sym, ◌∙◌, ap, subst, arith, OnOk, OnErr, Result, Ok, Err, length-take}
use Rattle.porch_edge.specs.declared.disk.FileName.{FileName}
use Rattle.porch_edge.specs.declared.failed.Failed.{Failed}
use Rattle.porch_edge.specs.declared.memory_calls.Change.{Change}
use Rattle.porch_edge.specs.declared.memory_calls.Change.TheVariants.{Write, Cut, Put}
use Rattle.porch_edge.specs.declared.memory_calls.Call.{Call}
use Rattle.porch_edge.specs.Files.{Files, file_of, with_file, written, Shortened, Marred}
use Rattle.std.proofs.lemmas.List.{take_all}
use Rattle.std.proofs.lemmas.Result.{on_ok_weaker}
use Rattle.porch_edge.specs.Disk.{DiskState, Turned, Passes, Ticks, Stays, Follows, Alters, WriteStep, CutStep, TornWrite}
use Rattle.porch_edge.specs.Calls.{bytes_before, LeavesBy, Leaves, end_of_time, memory_state}
use Rattle.porch_edge.specs.inside.Kept.{Did, Kept, Logged, next_moment}
use Rattle.porch_edge.specs.OneFile.{own_bytes}
use Rattle.porch_edge.proofs.Steps.{in_any, passes, the_call, kept_changed, back, follows}
use Rattle.porch_edge.proofs.MemorySteps.{in_any_err, ticks, log_of, log_more, torn_written, length-written, marred_shortened, alters_stays, torn_none, shortened_none, marred_none}

module _ {fs gs : Files} {old new : List Call} {g : FileName} {bytes : List ℕ} {change : Change} {now : ℕ} (kept : Kept fs (log_of old)) (l : Logged fs gs old new g bytes change now)
    (keeps_bytes : (x : List ℕ) → bytes_before change l.before.items x ≡ l.before.items) where
  pub log_is : log_of new ≡ the_call g change l.before now ∷ log_of old
  log_is = ap (λ (x : List Call). log_of x) l.kept ∙ log_more old (the_call g change l.before now)

  pub kept_logged : Did change (file_of g fs) bytes → length bytes ≤ 2 ^ 62 → Kept gs (log_of new)
  kept_logged did short = subst (λ x. Kept x (log_of new)) (sym l.has)
      (subst (λ x. Kept (with_file g fs bytes) x) (sym log_is)
      (kept_changed fs (log_of old) g l.before now bytes change l.had kept keeps_bytes (subst (λ x. Did change x bytes) (sym l.had) did) short))

  pub follows_logged : (R : List ℕ → List ℕ → Type 0) → ((now : List ℕ) (past : List ℕ → Type 0) (c : List ℕ) → past l.before.items → LeavesBy change now past c → (d : List ℕ) × past d × R d c)
      → Follows g R (Leaves fs (log_of old)) (Leaves gs (log_of new))
  follows_logged R step = subst (λ x. Follows g R (Leaves fs (log_of old)) (Leaves x (log_of new))) (sym l.has)
      (subst (λ x. Follows g R (Leaves fs (log_of old)) (Leaves (with_file g fs bytes) x)) (sym log_is)
      (follows fs (log_of old) g l.before now bytes change l.had kept keeps_bytes R (step (file_of g (with_file g fs bytes)))))

  pub passes_logged : (R : List ℕ → List ℕ → Type 0) (was : ℕ) → now ≡ was + 1
      → ((now : List ℕ) (past : List ℕ → Type 0) (c : List ℕ) → past l.before.items → LeavesBy change now past c → (d : List ℕ) × past d × R d c)
      → Passes (memory_state fs (log_of old) was) (memory_state gs (log_of new) now) (Turned g R (Leaves fs (log_of old)))
  passes_logged R was next step = subst (λ x. Passes (memory_state fs (log_of old) was) (memory_state x (log_of new) now) (Turned g R (Leaves fs (log_of old)))) (sym l.has)
      (subst (λ x. Passes (memory_state fs (log_of old) was) (memory_state (with_file g fs bytes) x now) (Turned g R (Leaves fs (log_of old)))) (sym log_is)
      (passes fs (with_file g fs bytes) (log_of old) (the_call g change l.before now) was (Turned g R (Leaves fs (log_of old)))
      (back fs (log_of old) g l.before now bytes change l.had kept keeps_bytes) next
      (follows fs (log_of old) g l.before now bytes change l.had kept keeps_bytes R (step (file_of g (with_file g fs bytes))))))

  pub alters_logged : (R S : List ℕ → List ℕ → Type 0) (was : ℕ) (r : Result (Unit {0}) Failed) → now ≡ was + 1
      → ((now : List ℕ) (past : List ℕ → Type 0) (c : List ℕ) → past l.before.items → LeavesBy change now past c → (d : List ℕ) × past d × R d c)
      → ((now : List ℕ) (past : List ℕ → Type 0) (c : List ℕ) → past l.before.items → LeavesBy change now past c → (d : List ℕ) × past d × S d c)
      → S (file_of g fs) bytes
      → Alters (memory_state fs (log_of old) was) (memory_state gs (log_of new) now) fs gs g bytes R S r
  alters_logged R S was r next step_R step_S did = record {
    done = in_any r l.has;
    failed = in_any_err r (record {
      others = l.has ∙ ap (λ (x : List ℕ). with_file g fs x) (sym bytes_are);
      bytes = subst (λ x. S (file_of g fs) x) (sym bytes_are) did;
    });
    crash = in_any r (follows_logged R step_R);
    crash_failed = in_any_err r (follows_logged S step_S);
    time = in_any r (passes_logged R was next step_R);
    time_failed = in_any_err r (passes_logged S was next step_S);
  }
    where
      bytes_are : file_of g gs ≡ bytes
      bytes_are = ap (λ (x : Files). file_of g x) l.has ∙ own_bytes g fs bytes

module _ {fs gs : Files} {old new : List Call} {g : FileName} (at : ℕ) (bytes : List ℕ) (kept : Kept fs (log_of old)) (some : 0 < length bytes) (short : at + length bytes ≤ 2 ^ 62)
    {now : ℕ} (l : Logged fs gs old new g (written (file_of g fs) at bytes) (Write (min at (length (file_of g fs))) (at + length bytes)) now) where
  pub kept_write : Kept gs (log_of new)
  kept_write = kept_logged kept l (λ x. refl) (torn_written (file_of g fs) at bytes some)
      (omega (arith, length-written (file_of g fs) at bytes some, kept.within g))

  pub write_step : (was : ℕ) (r : Result (Unit {0}) Failed) → was ≤ end_of_time → now ≡ next_moment was → now ≢ end_of_time → WriteStep (memory_state fs (log_of old) was) (memory_state gs (log_of new) now) g at bytes r
  write_step was r within next goes = (
    alters_logged kept l (λ x. refl) (TornWrite (file_of g fs) at bytes) (TornWrite (file_of g fs) at bytes) was r (omega (arith, next, goes)) (λ now past c own left. left) (λ now past c own left. left)
        (torn_written (file_of g fs) at bytes some),
    λ idle. elim idle [ inl none ↦ absurd (omega (arith, ap length none)) | inr past ↦ absurd (omega arith) ],
    ticks fs gs old new was now r within next (λ end. absurd (goes end)),
  )

module _ {fs gs : Files} {old new : List Call} {g : FileName} (len : ℕ) (kept : Kept fs (log_of old)) (longer : len < length (file_of g fs))
    {now : ℕ} (l : Logged fs gs old new g (take len (file_of g fs)) (Cut len) now) where
  shortened_take : Shortened len (file_of g fs) (take len (file_of g fs))
  shortened_take = record {
    front = ap (λ (n : ℕ). take n (file_of g fs)) (omega (arith, length-take len (file_of g fs)));
    no_shorter = omega (arith, length-take len (file_of g fs));
  }

  pub kept_cut : Kept gs (log_of new)
  kept_cut = kept_logged kept l (λ x. refl) (shortened_take, kept.within g) (omega (arith, length-take len (file_of g fs), kept.within g))

  pub cut_step : (was : ℕ) (r : Result (Unit {0}) Failed) → was ≤ end_of_time → now ≡ next_moment was → now ≢ end_of_time → CutStep (memory_state fs (log_of old) was) (memory_state gs (log_of new) now) g len r
  cut_step was r within next goes = (
    alters_logged kept l (λ x. refl) (Shortened len) (Marred len) was r (omega (arith, next, goes)) (λ now past c own left. left)
        (λ now past c own left. (left.0, left.1, marred_shortened len left.0 c left.2)) (marred_shortened len (file_of g fs) (take len (file_of g fs)) shortened_take),
    λ idle. absurd (omega arith),
    ticks fs gs old new was now r within next (λ end. absurd (goes end)),
  )

module _ {fs gs : Files} {old new : List Call} {g : FileName} (bytes : List ℕ) (kept : Kept fs (log_of old)) (short : length bytes ≤ 2 ^ 62) {now : ℕ}
    (l : Logged fs gs old new g bytes Put now) where
  pub kept_put : Kept gs (log_of new)
  kept_put = kept_logged kept l (λ x. refl) tt short

  put_is : (c : Files) → Leaves gs (log_of new) c → Turned g (λ _ c. c ≡ bytes) (Leaves fs (log_of old)) c
  put_is c left =
      let call : Call = the_call g Put l.before now in
      let left_now : Leaves (with_file g fs bytes) (call ∷ log_of old) c =
      subst (λ x. Leaves (with_file g fs bytes) x c) (log_is kept l (λ x. refl)) (subst (λ x. Leaves x (log_of new) c) l.has left) in
      follows fs (log_of old) g l.before now bytes Put l.had kept (λ x. refl) (λ _ c. c ≡ bytes)
      (λ past c own now. (l.before.items, own, now ∙ own_bytes g fs bytes)) c left_now

  pub follows_put : Follows g (λ _ c. c ≡ bytes) (Leaves fs (log_of old)) (Leaves gs (log_of new))
  follows_put c left = put_is c left

  pub passes_put : (was : ℕ) → now ≡ was + 1 → Passes (memory_state fs (log_of old) was) (memory_state gs (log_of new) now) (Turned g (λ _ c. c ≡ bytes) (Leaves fs (log_of old)))
  passes_put was next =
      let call : Call = the_call g Put l.before now in
      let P = Turned g (λ _ c. c ≡ bytes) (Leaves fs (log_of old)) in
      let here : (c : Files) → Leaves (with_file g fs bytes) (call ∷ log_of old) c → P c =
      λ c left. put_is c (subst (λ x. Leaves x (log_of new) c) (sym l.has) (subst (λ x. Leaves (with_file g fs bytes) x c) (sym (log_is kept l (λ x. refl))) left)) in
      subst (λ x. Passes (memory_state fs (log_of old) was) (memory_state x (log_of new) now) P) (sym l.has)
      (subst (λ x. Passes (memory_state fs (log_of old) was) (memory_state (with_file g fs bytes) x now) P) (sym (log_is kept l (λ x. refl)))
      (passes fs (with_file g fs bytes) (log_of old) call was P (back fs (log_of old) g l.before now bytes Put l.had kept (λ x. refl)) next here))

-- a call that has no effect
pub write_idle : (old new : DiskState) (fs gs : Files) (g : FileName) (at : ℕ) (bytes : List ℕ) (r : Result (Unit {0}) Failed) → OnOk r (bytes ≡ []) → Stays old new fs gs → Ticks old new fs gs r
    → Alters old new fs gs g (written (file_of g fs) at bytes) (TornWrite (file_of g fs) at bytes) (TornWrite (file_of g fs) at bytes) r
    × ((bytes ≡ []) ⊎ (2 ^ 62 < at + length bytes) → Stays old new fs gs) × Ticks old new fs gs r
write_idle old new fs gs g at bytes r none stays ticks = (
  alters_stays fs g old new gs (written (file_of g fs) at bytes) (TornWrite (file_of g fs) at bytes) (TornWrite (file_of g fs) at bytes) r (torn_none _ _) (torn_none _ _)
      (on_ok_weaker r (λ is. ap (λ (x : List ℕ). written (file_of g fs) at x) is) none) stays,
  λ idle. stays,
  ticks,
)

pub cut_idle : (old new : DiskState) (fs gs : Files) (g : FileName) (len : ℕ) (r : Result (Unit {0}) Failed) → OnOk r (length (file_of g fs) ≤ len) → Stays old new fs gs → Ticks old new fs gs r
    → Alters old new fs gs g (take len (file_of g fs)) (Shortened len) (Marred len) r × (length (file_of g fs) ≤ len → Stays old new fs gs) × Ticks old new fs gs r
cut_idle old new fs gs g len r longer stays ticks = (
  alters_stays fs g old new gs (take len (file_of g fs)) (Shortened len) (Marred len) r (shortened_none len) (marred_none len)
      (on_ok_weaker r (λ le. take_all len (file_of g fs) le) longer) stays,
  λ idle. stays,
  ticks,
)

pub both_err : {T E A B P : Type 0} (r : Result T E) → (A → B → P) → OnErr r A → OnErr r B → OnErr r P
both_err (Ok x) f a b = tt
both_err (Err e) f a b = f a b
