-- What reaches a checkpoint by calls nested so deep.
use Rattle.std.proofs.Common.{◌≡◌, ◌≤◌, ℕ, zero, suc, ◌+◌, List, set, refl, sym, ◌∙◌, subst, arith, Bool, true, false}
use Rattle.std.specs.Prelude.{slice_get, ◌-◌, ◌==◌}
use Rattle.std.specs.List.{list_any}
use Rattle.std.proofs.lemmas.Bool.Decides.{nat_tests}
use Rattle.porch_flat.specs.declared.whole.Command.{Command}
use Rattle.porch_flat.specs.declared.whole.Function.{Function}
use Rattle.porch_flat.specs.declared.whole.Flat.{Flat}
use Rattle.porch_flat.specs.whole.Form as form
use Rattle.porch_flat.specs.whole.Form.{Form, form_of}
use Rattle.porch_flat.specs.whole.Places.{commands_of}
use Rattle.porch_flat.specs.whole.Rewritten.{leads_to_checkpoint, reaches_within}
use Rattle.porch_flat.specs.whole.Calls.{is_call_of, is_checkpoint, calls, holds_checkpoint, IsClosed}
use Rattle.porch_flat.proofs.CallGraph.{passing, any_passes}

-- what reaches a checkpoint

pub any_weaker : {X : Type 0} (p q : X → Bool) (xs : List X) → ((x : X) → p x ≡ true → q x ≡ true) → list_any p xs ≡ true → list_any q xs ≡ true
any_weaker p q xs weaker h = let found = passing p xs h in any_passes q xs found.place found.item found.here (weaker found.item found.passes)

leads_weaker : (p q : ℕ → Bool) → ((f : ℕ) → p f ≡ true → q f ≡ true) → (f : Form) → leads_to_checkpoint p f ≡ true → leads_to_checkpoint q f ≡ true
leads_weaker p q weaker (form.move v o) h = absurd (cc)
leads_weaker p q weaker (form.cast v w) h = absurd (cc)
leads_weaker p q weaker (form.operator op v a b) h = absurd (cc)
leads_weaker p q weaker (form.complement v o) h = absurd (cc)
leads_weaker p q weaker (form.comparison c v a b) h = absurd (cc)
leads_weaker p q weaker (form.subobject v within leaf) h = absurd (cc)
leads_weaker p q weaker (form.step way v p' o) h = absurd (cc)
leads_weaker p q weaker (form.difference v p' q') h = absurd (cc)
leads_weaker p q weaker (form.load v p') h = absurd (cc)
leads_weaker p q weaker (form.store p' o) h = absurd (cc)
leads_weaker p q weaker (form.copy p' q') h = absurd (cc)
leads_weaker p q weaker (form.kill v) h = absurd (cc)
leads_weaker p q weaker (form.allocate zeros v o) h = absurd (cc)
leads_weaker p q weaker (form.free p') h = absurd (cc)
leads_weaker p q weaker (form.show how v o) h = absurd (cc)
leads_weaker p q weaker (form.text v p') h = absurd (cc)
leads_weaker p q weaker (form.label k) h = absurd (cc)
leads_weaker p q weaker (form.jump n) h = absurd (cc)
leads_weaker p q weaker (form.branch o n) h = absurd (cc)
leads_weaker p q weaker form.turn h = absurd (cc)
leads_weaker p q weaker (form.call r g os) h = weaker g h
leads_weaker p q weaker (form.return o) h = absurd (cc)
leads_weaker p q weaker form.checkpoint h = refl
leads_weaker p q weaker (form.restore vs) h = absurd (cc)
leads_weaker p q weaker (form.table k n) h = absurd (cc)
leads_weaker p q weaker (form.saved k n) h = absurd (cc)
leads_weaker p q weaker (form.push vs) h = absurd (cc)

-- a command that leads to a checkpoint is one, or calls a function that reaches one
pub data Leading (p : ℕ → Bool) (f : Form) : Type 0 where
  itself : is_checkpoint f ≡ true → Leading p f
  calling : (g : ℕ) → is_call_of g f ≡ true → p g ≡ true → Leading p f

same_itself : (g : ℕ) → g == g ≡ true
same_itself g = grind (arith, nat_tests)

leading : (p : ℕ → Bool) (f : Form) → leads_to_checkpoint p f ≡ true → Leading p f
leading p (form.move v o) h = absurd (cc)
leading p (form.cast v w) h = absurd (cc)
leading p (form.operator op v a b) h = absurd (cc)
leading p (form.complement v o) h = absurd (cc)
leading p (form.comparison c v a b) h = absurd (cc)
leading p (form.subobject v within leaf) h = absurd (cc)
leading p (form.step way v p' o) h = absurd (cc)
leading p (form.difference v p' q') h = absurd (cc)
leading p (form.load v p') h = absurd (cc)
leading p (form.store p' o) h = absurd (cc)
leading p (form.copy p' q') h = absurd (cc)
leading p (form.kill v) h = absurd (cc)
leading p (form.allocate zeros v o) h = absurd (cc)
leading p (form.free p') h = absurd (cc)
leading p (form.show how v o) h = absurd (cc)
leading p (form.text v p') h = absurd (cc)
leading p (form.label k) h = absurd (cc)
leading p (form.jump n) h = absurd (cc)
leading p (form.branch o n) h = absurd (cc)
leading p form.turn h = absurd (cc)
leading p (form.call r g os) h = calling g (same_itself g) h
leading p (form.return o) h = absurd (cc)
leading p form.checkpoint h = itself refl
leading p (form.restore vs) h = absurd (cc)
leading p (form.table k n) h = absurd (cc)
leading p (form.saved k n) h = absurd (cc)
leading p (form.push vs) h = absurd (cc)

is_leading : (p : ℕ → Bool) (f : Form) (g : ℕ) → p g ≡ true → is_call_of g f ≡ true → leads_to_checkpoint p f ≡ true
is_leading p (form.call r h os) g there is = let same : h ≡ g = grind (arith, nat_tests, is) in rw same there
is_leading p (form.move v o) g there is = absurd (cc)
is_leading p (form.cast v w) g there is = absurd (cc)
is_leading p (form.operator op v a b) g there is = absurd (cc)
is_leading p (form.complement v o) g there is = absurd (cc)
is_leading p (form.comparison c v a b) g there is = absurd (cc)
is_leading p (form.subobject v within leaf) g there is = absurd (cc)
is_leading p (form.step way v p' o) g there is = absurd (cc)
is_leading p (form.difference v p' q') g there is = absurd (cc)
is_leading p (form.load v p') g there is = absurd (cc)
is_leading p (form.store p' o) g there is = absurd (cc)
is_leading p (form.copy p' q') g there is = absurd (cc)
is_leading p (form.kill v) g there is = absurd (cc)
is_leading p (form.allocate zeros v o) g there is = absurd (cc)
is_leading p (form.free p') g there is = absurd (cc)
is_leading p (form.show how v o) g there is = absurd (cc)
is_leading p (form.text v p') g there is = absurd (cc)
is_leading p (form.label k) g there is = absurd (cc)
is_leading p (form.jump n) g there is = absurd (cc)
is_leading p (form.branch o n) g there is = absurd (cc)
is_leading p form.turn g there is = absurd (cc)
is_leading p (form.return o) g there is = absurd (cc)
is_leading p form.checkpoint g there is = absurd (cc)
is_leading p (form.restore vs) g there is = absurd (cc)
is_leading p (form.table k n) g there is = absurd (cc)
is_leading p (form.saved k n) g there is = absurd (cc)
is_leading p (form.push vs) g there is = absurd (cc)

checkpoint_leads : (p : ℕ → Bool) (f : Form) → is_checkpoint f ≡ true → leads_to_checkpoint p f ≡ true
checkpoint_leads p form.checkpoint is = refl
checkpoint_leads p (form.call r h os) is = absurd (cc)
checkpoint_leads p (form.move v o) is = absurd (cc)
checkpoint_leads p (form.cast v w) is = absurd (cc)
checkpoint_leads p (form.operator op v a b) is = absurd (cc)
checkpoint_leads p (form.complement v o) is = absurd (cc)
checkpoint_leads p (form.comparison c v a b) is = absurd (cc)
checkpoint_leads p (form.subobject v within leaf) is = absurd (cc)
checkpoint_leads p (form.step way v p' o) is = absurd (cc)
checkpoint_leads p (form.difference v p' q') is = absurd (cc)
checkpoint_leads p (form.load v p') is = absurd (cc)
checkpoint_leads p (form.store p' o) is = absurd (cc)
checkpoint_leads p (form.copy p' q') is = absurd (cc)
checkpoint_leads p (form.kill v) is = absurd (cc)
checkpoint_leads p (form.allocate zeros v o) is = absurd (cc)
checkpoint_leads p (form.free p') is = absurd (cc)
checkpoint_leads p (form.show how v o) is = absurd (cc)
checkpoint_leads p (form.text v p') is = absurd (cc)
checkpoint_leads p (form.label k) is = absurd (cc)
checkpoint_leads p (form.jump n) is = absurd (cc)
checkpoint_leads p (form.branch o n) is = absurd (cc)
checkpoint_leads p form.turn is = absurd (cc)
checkpoint_leads p (form.return o) is = absurd (cc)
checkpoint_leads p (form.restore vs) is = absurd (cc)
checkpoint_leads p (form.table k n) is = absurd (cc)
checkpoint_leads p (form.saved k n) is = absurd (cc)
checkpoint_leads p (form.push vs) is = absurd (cc)

module _ (flat : Flat) where
  abbrev fs : List Function
  fs = flat.functions

  abbrev here : ℕ → List Command
  here f = commands_of (slice_get fs f)

  -- one level of calls
  step_of : (n f : ℕ) → reaches_within (suc n) flat f ≡ list_any (λ c. leads_to_checkpoint (reaches_within n flat) (form_of c)) (here f)
  unfolding reaches_within
  step_of n f = refl

  none_within : (f : ℕ) → reaches_within 0 flat f ≡ false
  unfolding reaches_within
  none_within f = refl

  from_step : (n f : ℕ) → list_any (λ c. leads_to_checkpoint (reaches_within n flat) (form_of c)) (here f) ≡ true → reaches_within (suc n) flat f ≡ true
  from_step n f h = step_of n f ∙ h

  one_more : (n f : ℕ) → reaches_within n flat f ≡ true → reaches_within (suc n) flat f ≡ true
  one_more zero f h = absurd (let none = none_within f in cc)
  one_more (suc n) f h =
      from_step (suc n) f
      (any_weaker (λ c. leads_to_checkpoint (reaches_within n flat) (form_of c)) (λ c. leads_to_checkpoint (reaches_within (suc n) flat) (form_of c)) (here f)
      (λ c is. leads_weaker (reaches_within n flat) (reaches_within (suc n) flat) (λ g there. one_more n g there) (form_of c) is) (sym (step_of n f) ∙ h))

  more_within : (n k f : ℕ) → reaches_within n flat f ≡ true → reaches_within (n + k) flat f ≡ true
  more_within n zero f h = let same : n + 0 ≡ n = omega arith in rw same h
  more_within n (suc k) f h = let same : n + suc k ≡ suc (n + k) = omega arith in rw same (one_more (n + k) f (more_within n k f h))

  pub longer_within : (n m f : ℕ) → n ≤ m → reaches_within n flat f ≡ true → reaches_within m flat f ≡ true
  longer_within n m f le h = let same : n + (m - n) ≡ m = omega (arith, le) in subst (λ k. reaches_within k flat f ≡ true) same (more_within n (m - n) f h)

  -- a checkpoint of its own, or a call of a function that reaches one
  pub within_by_call : (n f g : ℕ) → calls flat f g ≡ true → reaches_within n flat g ≡ true → reaches_within (n + 1) flat f ≡ true
  within_by_call n f g call there =
      let same : n + 1 ≡ suc n = omega arith in
      rw same (from_step n f (any_weaker (λ c. is_call_of g (form_of c)) (λ c. leads_to_checkpoint (reaches_within n flat) (form_of c)) (here f)
      (λ c is. is_leading (reaches_within n flat) (form_of c) g there is) call))

  pub within_by_itself : (f : ℕ) → holds_checkpoint flat f ≡ true → reaches_within 1 flat f ≡ true
  within_by_itself f h =
      from_step 0 f (any_weaker (λ c. is_checkpoint (form_of c)) (λ c. leads_to_checkpoint (reaches_within 0 flat) (form_of c)) (here f)
      (λ c is. checkpoint_leads (reaches_within 0 flat) (form_of c) is) h)

  -- each closed set has what reaches a checkpoint
  pub closed_has : (set : ℕ → Bool) → IsClosed flat set → (n f : ℕ) → reaches_within n flat f ≡ true → set f ≡ true
  closed_has set closed zero f h = absurd (let none = none_within f in cc)
  closed_has set closed (suc n) f h =
      let found = passing (λ c. leads_to_checkpoint (reaches_within n flat) (form_of c)) (here f) (sym (step_of n f) ∙ h) in
      elim (leading (reaches_within n flat) (form_of found.item) found.passes) [
        | itself is ↦ closed.checkpoints f (any_passes (λ c. is_checkpoint (form_of c)) (here f) found.place found.item found.here is)
        | calling g is there ↦
            closed.callers f g (any_passes (λ c. is_call_of g (form_of c)) (here f) found.place found.item found.here is) (closed_has set closed n g there)
      ]
