-- The steps of a disk in memory, whose calls stand in their order.
use Rattle.std.proofs.Common.{◌≡◌, ◌≢◌, ◌⊎◌, true, false, inl, inr, ℕ, zero, suc, ◌+◌, ◌-◌, ◌<◌, ◌≤◌, List, [], ◌∷◌, ◌++◌, length, take, drop, reverse, min, max, replicate, refl, sym, ◌∙◌, ap, subst, arith, OnOk, OnErr, Result, Ok, Err, length-append, length-drop, length-take, append_assoc}
use Rattle.std.proofs.lemmas.List.{reverse-append, drop_at, take_all, take-append-le, length-replicate}
use Rattle.std.proofs.lemmas.Bool.{cases_lt, false≢true}
use Rattle.std.proofs.lemmas.Bool.Decides.{nat_tests}
use Rattle.std.specs.Prelude.{leb, IsErr}
use Rattle.std.proofs.lemmas.Result.{on_ok_weaker}
use Rattle.porch_edge.specs.declared.disk.FileName.{FileName}
use Rattle.porch_edge.specs.declared.failed.Failed.{Failed}
use Rattle.porch_edge.specs.declared.memory_calls.Change.{Change}
use Rattle.porch_edge.specs.declared.memory_calls.Change.TheVariants.{Nothing, Synced}
use Rattle.porch_edge.specs.declared.memory_calls.Call.{Call}
use Rattle.porch_edge.specs.Files.{Files, file_of, with_file, written, padded_to, Torn, Shortened, Marred, Changed}
use Rattle.porch_edge.specs.Disk.{DiskState, Turned, Passes, Rests, Ticks, Stays, Alters}
use Rattle.porch_edge.specs.Calls.{Leaves, end_of_time, memory_state}
use Rattle.porch_edge.specs.inside.Kept.{Kept, Noted, Logged, last_moment, next_moment}
use Rattle.porch_edge.specs.OneFile.{with_own}
use Rattle.porch_edge.proofs.Steps.{in_any, passes, stays_none, the_call, keeps_nothing, kept_nothing, durable_synced, keeps_synced, kept_synced}

-- the calls, of which the last stands first
abbrev pub log_of : List Call → List Call
log_of calls = reverse calls

pub log_more : (old : List Call) (call : Call) → log_of (old ++ call ∷ []) ≡ call ∷ log_of old
log_more old call = reverse-append old (call ∷ [])

pub in_any_err : {T E P : Type 0} (r : Result T E) → P → OnErr r P
in_any_err (Ok x) p = tt
in_any_err (Err e) p = p

pub none_ok : {T E : Type 0} (r : Result T E) (P : Type 0) → IsErr r → OnOk r P
none_ok (Ok x) P is = absurd (false≢true is)
none_ok (Err e) P is = tt

-- what holds whether a call was kept or not
pub kept_or_not : {T E A B C D P : Type 0} (r : Result T E) → OnOk r A → OnErr r B → OnErr r C → OnErr r D → (A → P) → (B → C → D → P) → P
kept_or_not (Ok x) a b c d f g = f a
kept_or_not (Err e) a b c d f g = g b c d

-- a shorter front of a front
take_less : (m n : ℕ) (x : List ℕ) → m ≤ n → take m (take n x) ≡ take m x
take_less zero n x le = refl
take_less (suc m) zero x le = absurd (omega arith)
take_less (suc m) (suc n) [] le = refl
take_less (suc m) (suc n) (y ∷ x) le = ap (λ (l : List ℕ). y ∷ l) (take_less m n x (omega arith))

-- where nothing was kept
pub stays_unchanged : (fs gs : Files) (old new : List Call) (was now : ℕ) → gs ≡ fs → new ≡ old → was ≤ now → last_moment (log_of old) ≤ was
    → Stays (memory_state fs (log_of old) was) (memory_state gs (log_of new) now) fs gs
stays_unchanged fs gs old new was now same_files same_calls on past =
    subst (λ g. Stays (memory_state fs (log_of old) was) (memory_state g (log_of new) now) fs g) (sym same_files)
    (subst (λ l. Stays (memory_state fs (log_of old) was) (memory_state fs (log_of l) now) fs fs) (sym same_calls) (stays_none fs (log_of old) was now on past))

-- where a call was kept that changes no byte
pub stays_noted : (fs : Files) (old new : List Call) (g : FileName) (change : Change) (was now : ℕ) → (change ≡ Nothing) ⊎ (change ≡ Synced) → Kept fs (log_of old) → now ≡ was + 1 → Noted old new g change now
    → Stays (memory_state fs (log_of old) was) (memory_state fs (log_of new) now) fs fs
stays_noted fs old new g change was now (inl is) kept next noted =
    let call : Call = the_call g Nothing noted.before now in
    let new_is : new ≡ old ++ call ∷ [] = noted.kept ∙ ap (λ (x : Change). old ++ the_call g x noted.before now ∷ []) is in
    let crash = keeps_nothing fs (log_of old) g noted.before now in
    subst (λ l. Stays (memory_state fs (log_of old) was) (memory_state fs l now) fs fs) (sym (ap (λ (l : List Call). log_of l) new_is ∙ log_more old call))
    (record { same = refl; crash = crash; time = passes fs fs (log_of old) call was (Leaves fs (log_of old)) (with_own g fs) next crash })
stays_noted fs old new g change was now (inr is) kept next noted =
    let call : Call = the_call g Synced noted.before now in
    let new_is : new ≡ old ++ call ∷ [] = noted.kept ∙ ap (λ (x : Change). old ++ the_call g x noted.before now ∷ []) is in
    let crash = keeps_synced fs (log_of old) g noted.before now kept in
    subst (λ l. Stays (memory_state fs (log_of old) was) (memory_state fs l now) fs fs) (sym (ap (λ (l : List Call). log_of l) new_is ∙ log_more old call))
    (record { same = refl; crash = crash; time = passes fs fs (log_of old) call was (Leaves fs (log_of old)) (with_own g fs) next crash })

pub kept_noted : (fs : Files) (old new : List Call) (g : FileName) (change : Change) (moment : ℕ) → (change ≡ Nothing) ⊎ (change ≡ Synced) → Kept fs (log_of old) → Noted old new g change moment → Kept fs (log_of new)
kept_noted fs old new g change moment (inl is) kept noted =
    let call : Call = the_call g Nothing noted.before moment in
    let new_is : new ≡ old ++ call ∷ [] = noted.kept ∙ ap (λ (x : Change). old ++ the_call g x noted.before moment ∷ []) is in
    subst (λ l. Kept fs l) (sym (ap (λ (l : List Call). log_of l) new_is ∙ log_more old call)) (kept_nothing fs (log_of old) g noted.before moment kept)
kept_noted fs old new g change moment (inr is) kept noted =
    let call : Call = the_call g Synced noted.before moment in
    let new_is : new ≡ old ++ call ∷ [] = noted.kept ∙ ap (λ (x : Change). old ++ the_call g x noted.before moment ∷ []) is in
    subst (λ l. Kept fs l) (sym (ap (λ (l : List Call). log_of l) new_is ∙ log_more old call)) (kept_synced fs (log_of old) g noted.before moment kept)

-- the last call of those that are kept now
pub past_noted : (old new : List Call) (g : FileName) (change : Change) (moment : ℕ) → Noted old new g change moment → last_moment (log_of new) ≡ moment
past_noted old new g change moment noted = ap (λ (l : List Call). last_moment (log_of l)) noted.kept ∙ ap last_moment (log_more old (the_call g change noted.before moment))

pub past_logged : (fs gs : Files) (old new : List Call) (g : FileName) (bytes : List ℕ) (change : Change) (moment : ℕ) → Logged fs gs old new g bytes change moment → last_moment (log_of new) ≡ moment
past_logged fs gs old new g bytes change moment l = ap (λ (x : List Call). last_moment (log_of x)) l.kept ∙ ap last_moment (log_more old (the_call g change l.before moment))

pub past_same : (old new : List Call) (was now : ℕ) → new ≡ old → was ≤ now → last_moment (log_of old) ≤ was → last_moment (log_of new) ≤ now
past_same old new was now same on past = omega (arith, ap (λ (l : List Call). last_moment (log_of l)) same, on, past)

pub durable_noted : (fs : Files) (old new : List Call) (g : FileName) (moment : ℕ) → Noted old new g Synced moment → (c : Files) → Leaves fs (log_of new) c → file_of g c ≡ file_of g fs
durable_noted fs old new g moment noted c left =
    durable_synced fs (log_of old) g noted.before moment c (subst (λ l. Leaves fs l c) (ap (λ (l : List Call). log_of l) noted.kept ∙ log_more old (the_call g Synced noted.before moment)) left)

-- where nothing has changed, not even the moment
rests : (fs gs : Files) (old new : List Call) (was now : ℕ) → gs ≡ fs → new ≡ old → now ≡ was → leb end_of_time was ≡ true → Rests (memory_state fs (log_of old) was) (memory_state gs (log_of new) now) fs gs
rests fs gs old new was now same_files same_calls still at_end =
    subst (λ g. Rests (memory_state fs (log_of old) was) (memory_state g (log_of new) now) fs g) (sym same_files)
    (subst (λ l. Rests (memory_state fs (log_of old) was) (memory_state fs (log_of l) now) fs fs) (sym same_calls)
    (subst (λ n. Rests (memory_state fs (log_of old) was) (memory_state fs (log_of old) n) fs fs) (sym still) (record {
      same = refl;
      still = λ clock. refl;
      keeps = λ c left. left;
      leaves = λ c left. left;
      keeps_at = λ m c left. left;
      leaves_at = λ m c left. left;
      halted = at_end;
    })))

-- the clock goes on by one; in its last moment a call fails without effect
pub ticks : {T : Type 0} (fs gs : Files) (old new : List Call) (was now : ℕ) (r : Result T Failed) → was ≤ end_of_time → now ≡ next_moment was → (now ≡ end_of_time → IsErr r × (gs ≡ fs) × (new ≡ old))
    → Ticks (memory_state fs (log_of old) was) (memory_state gs (log_of new) now) fs gs r
ticks fs gs old new was now r within next at_end = record {
  going = λ test clock. let before : was < end_of_time = grind (arith, nat_tests, test) in omega (arith, next, before);
  halted = λ test.
      let there : was ≡ end_of_time = grind (arith, nat_tests, test, within) in
      let still : now ≡ was = omega (arith, next, there) in
      let facts = at_end (still ∙ there) in
      (facts.0, rests fs gs old new was now facts.1 facts.2 still test);
  goes_on = goes r at_end;
}
  where
    going_on : now ≢ end_of_time → leb end_of_time now ≡ false
    going_on other = let before : now < end_of_time = omega (arith, next, other) in grind (arith, nat_tests, before)

    goes : {T : Type 0} (r : Result T Failed) → (now ≡ end_of_time → IsErr r × (gs ≡ fs) × (new ≡ old)) → OnOk r (leb end_of_time now ≡ false)
    goes (Ok x) at_end = going_on (λ is. false≢true (at_end is).0)
    goes (Err e) at_end = tt

-- files that stay take a call that changes nothing
module _ (fs : Files) (g : FileName) where
  changed_none : (R : List ℕ → List ℕ → Type 0) → ((x : List ℕ) → R x x) → (c : Files) → Changed g R c c
  changed_none R same c = record { others = sym (with_own g c); bytes = same (file_of g c) }

  passes_turned : (old new : DiskState) (R : List ℕ → List ℕ → Type 0) → ((x : List ℕ) → R x x) → Passes old new old.leaves → Passes old new (Turned g R old.leaves)
  passes_turned old new R same_R time = record {
    later = time.later;
    nothing_else = λ m c left. elim (time.nothing_else m c left) [
      | inl past ↦ inl past
      | inr here ↦ inr (here.0, (c, here.1, changed_none R same_R c))
    ];
    keeps = time.keeps;
  }

  pub alters_stays : (old new : DiskState) (gs : Files) (full : List ℕ) (R S : List ℕ → List ℕ → Type 0) (r : Result (Unit {0}) Failed) → ((x : List ℕ) → R x x) → ((x : List ℕ) → S x x) → OnOk r (full ≡ file_of g fs) → Stays old new fs gs → Alters old new fs gs g full R S r
  alters_stays old new gs full R S r same_R same_S full_is stays = record {
    done = on_ok_weaker r (λ is. stays.same ∙ sym (with_own g fs) ∙ ap (λ (x : List ℕ). with_file g fs x) (sym is)) full_is;
    failed = in_any_err r (subst (λ x. Changed g S fs x) (sym stays.same) (changed_none S same_S fs));
    crash = in_any r (λ c left. (c, stays.crash c left, changed_none R same_R c));
    crash_failed = in_any_err r (λ c left. (c, stays.crash c left, changed_none S same_S c));
    time = in_any r (passes_turned old new R same_R stays.time);
    time_failed = in_any_err r (passes_turned old new S same_S stays.time);
  }

pub torn_none : (from to : ℕ) (x : List ℕ) → Torn from to x x
torn_none from to x = record { before = refl; behind = refl; no_shorter = omega arith; no_longer = omega arith }

pub shortened_none : (len : ℕ) (x : List ℕ) → Shortened len x x
shortened_none len x = record { front = sym (take_all (length x) x (omega arith)); no_shorter = omega arith }

pub marred_none : (len : ℕ) (x : List ℕ) → Marred len x x
marred_none len x = record { before = refl; no_shorter = omega arith; no_longer = omega arith }

-- a cut that goes as far as it can is one that fails
pub marred_shortened : (len : ℕ) (d c : List ℕ) → Shortened len d c → Marred len d c
marred_shortened len d c short = record {
  before = elim (cases_lt (length c) len) [
    | inr le ↦ ap (λ (x : List ℕ). take len x) short.front ∙ take_less len (length c) d le
    | inl lt ↦ ap (λ (x : List ℕ). take len x) (short.front ∙ take_all (length c) d (omega (arith, short.no_shorter, lt)))
  ];
  no_shorter = short.no_shorter;
  no_longer = omega (arith, ap length short.front, length-take (length c) d);
}

-- a write has changed the places that it names
module _ (old : List ℕ) (at : ℕ) (b : ℕ) (bs : List ℕ) where
  abbrev piece : List ℕ
  piece = b ∷ bs

  abbrev front : List ℕ
  front = take at (padded_to at old)

  front_length : length front ≡ at
  front_length = omega (arith, length-take at (padded_to at old), length-append old (replicate (at - length old) 0), length-replicate {A = ℕ} (at - length old) 0)

  front_is : take (min at (length old)) front ≡ take (min at (length old)) old
  front_is = take_less (min at (length old)) at (padded_to at old) (omega arith) ∙ take-append-le (min at (length old)) old (replicate (at - length old) 0) (omega arith)

  whole : written old at piece ≡ front ++ (piece ++ drop (at + length piece) old)
  whole = append_assoc front piece (drop (at + length piece) old)

  whole_length : length (written old at piece) ≡ max (length old) (at + length piece)
  whole_length = omega (arith, ap length whole, length-append front (piece ++ drop (at + length piece) old), length-append piece (drop (at + length piece) old), length-drop (at + length piece) old, front_length)

  pub torn_more : Torn (min at (length old)) (at + length piece) old (written old at piece)
  torn_more = record {
    before = ap (λ (x : List ℕ). take (min at (length old)) x) whole ∙ take-append-le (min at (length old)) front (piece ++ drop (at + length piece) old) (omega (arith, front_length)) ∙ front_is;
    behind = drop_at (front ++ piece) (drop (at + length piece) old) (at + length piece) (omega (arith, length-append front piece, front_length));
    no_shorter = omega (arith, whole_length);
    no_longer = omega (arith, whole_length);
  }

  pub written_length : length (written old at piece) ≡ max (length old) (at + length piece)
  written_length = whole_length

pub torn_written : (old : List ℕ) (at : ℕ) (bytes : List ℕ) → 0 < length bytes → Torn (min at (length old)) (at + length bytes) old (written old at bytes)
torn_written old at [] some = absurd (omega (arith, some))
torn_written old at (b ∷ bs) some = torn_more old at b bs

pub length-written : (old : List ℕ) (at : ℕ) (bytes : List ℕ) → 0 < length bytes → length (written old at bytes) ≡ max (length old) (at + length bytes)
length-written old at [] some = absurd (omega (arith, some))
length-written old at (b ∷ bs) some = written_length old at b bs
