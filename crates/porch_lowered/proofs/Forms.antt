-- Single forms: constants, values that are dropped, and what a value that is used leads to.
use Rattle.std.proofs.Common.{◌≡◌, ◌≤◌, ℕ, ℤ, ◌+◌, List, length, refl, sym, ap, ◌∙◌, arith, Some, None}
use Rattle.std.specs.Prelude.{Result, Ok}
use Rattle.porch_values.specs.declared.acts.Act.{Act}
use Rattle.porch_objects.specs.Store.{Value, number, null, pointer, past, indeterminate, Object, Store, seen}
use Rattle.porch_objects.specs.Pointers.{if_there, if_number}
use Rattle.porch_objects.specs.Meaning.{Progress}
use Rattle.porch_flat.specs.declared.flat.Operand.TheVariants.{Constant}
use Rattle.porch_flat.specs.declared.whole.Command.TheVariants as command
use Rattle.porch_flat.specs.whole.Places.{type_at}
use Rattle.porch_abstract.specs.Machine.{put, determined}
use Rattle.porch_abstract.specs.whole.Machine.{constant_of}
use Rattle.porch_mean.specs.Outcome.{Outcome, Went, and_then, with_result, with_number, done}
use Rattle.porch_lowering.specs.Code.{InUse, plain, Coder}
use Rattle.porch_lowering.specs.Expression.{moved_to}
use Rattle.porch_sound.specs.Typing.{StoreTyping}
use Rattle.porch_lowered.proofs.Typed.{adds_nothing}
use Rattle.porch_lowered.proofs.Runs.{stays}
use Rattle.porch_lowered.proofs.Follows.{follows_then}
use Rattle.porch_lowered.proofs.SameLeaf.{seen_twice}
use Rattle.porch_lowered.proofs.States.{Stands, IsThere, command_goes}
use Rattle.porch_lowered.proofs.Codes.{Context, commands, here, goes_on, IsOf, Follow, IsReady, Arrives, Codes}
use Rattle.porch_lowered.proofs.Held.{IsStrict}

-- a number that is used, and what a result leads to
pub numbers_follow : (x : Value) (s : Progress) (r : ℤ → Result Value Act) (go : Value → Progress → Outcome)
    → with_number x s (λ z s. with_result (r z) s go) ≡ with_result (if_number x r) s go
numbers_follow (number z) s r go = refl
numbers_follow null s r go = refl
numbers_follow (pointer home leaf) s r go = refl
numbers_follow (past home leaf until) s r go = refl
numbers_follow indeterminate s r go = refl

pub number_there : (x : Value) (r : ℤ → Result Value Act) → if_number x r ≡ if_there x (λ x. if_number x r)
number_there (number z) r = refl
number_there null r = refl
number_there (pointer home leaf) r = refl
number_there (past home leaf until) r = refl
number_there indeterminate r = refl

-- What uses a value is strict in it.
module _ (f : Store → Value → Result Value Act) (go : Value → Progress → Outcome)
    (is : (v : Value) (s : Progress) → go v s ≡ with_result (if_there (seen s.store v) (f s.store)) s (λ w s. Went w s)) where
  as_seen : (v w : Value) (s : Progress) → seen s.store v ≡ w → go w s ≡ go v s
  as_seen v w s e =
      is w s
      ∙ ap (λ x. with_result (if_there x (f s.store)) s (λ w s. Went w s)) (ap (λ w. seen s.store w) (sym e) ∙ seen_twice s.store v)
      ∙ sym (is v s)

  by_value : (v w : Value) (s : Progress) → seen s.store v ≡ w → and_then (with_result (if_there w (λ v. Ok v)) s (λ v s. Went v s)) go ≡ go v s
  by_value v (number z) s e = as_seen v (number z) s e
  by_value v null s e = as_seen v null s e
  by_value v (pointer home leaf) s e = as_seen v (pointer home leaf) s e
  by_value v (past home leaf until) s e = as_seen v (past home leaf until) s e
  by_value v indeterminate s e = sym (is v s ∙ ap (λ x. with_result (if_there x (f s.store)) s (λ w s. Went w s)) e)

  pub strict_by : IsStrict go
  strict_by v s = by_value v (seen s.store v) s refl

module _ (c : Context) where
  -- A constant, which goes to a variable as a value of its type.
  pub constants : (ty : ℕ) (z : ℤ) (v : Value) → constant_of (type_at c.flat (Some ty)) z ≡ v → IsThere v → ((made : StoreTyping) → IsOf c made ty v)
      → Codes c ty (λ s. Went v s) (λ to used label. plain (moved_to to (Constant z)) used label)
  constants ty z v is there of None used label place made s ts ready may room stands =
      let e : place + 0 ≡ place = omega arith in
      record {
        later = made;
        adds = adds_nothing made;
        temporaries = ts;
        onward = rw e (stays c.flat c.under c.n (here c s ts place) s.marks);
        ready = ready;
        value = of made;
        kept = λ i u ne. refl;
      }
  constants ty z v is there of (Some d) used label place made s ts ready may room stands =
      record {
        later = made;
        adds = adds_nothing made;
        temporaries = ts;
        onward =
            command_goes c.flat c.under c.n c.function c.into c.callers c.more (command.Move d (Constant z)) place (here c s ts place) stands.0
            (record { calm = refl; silent = λ s frame. refl }) (put d v (here c s ts (place + 1))) s.marks
            (ap (λ ty. determined (constant_of (type_at c.flat ty) z) (goes_on c d place s ts)) (may place)
            ∙ ap (λ x. determined x (goes_on c d place s ts)) is ∙ there (goes_on c d place s ts));
        ready = ready;
        value = of made;
        kept = λ i u ne. refl;
      }

  -- a value that is dropped
  pub discards : (ty ty' : ℕ) (value : Progress → Outcome) (coder : Coder) → Codes c ty value coder
      → (used : InUse) (label place : ℕ) (made : StoreTyping) (s : Progress) (ts : List Object) → IsReady c made s ts
      → ((t : ℕ) → (coder None used label).most t ≤ c.pools t)
      → Stands (commands c) place (coder None used label).commands
      → Follow c (and_then (value s) (λ _ s. done s)) (here c s ts place) s.marks
      (Arrives c ty' made None used ts (here c s ts place) s.marks (place + length (coder None used label).commands))
  discards ty ty' value coder codes used label place made s ts ready room stands =
      follows_then c.flat c.under c.n (value s) (λ _ s. done s) (here c s ts place) s.marks _ _ (codes None used label place made s ts ready tt room stands)
      (λ v s' x.
      record { later = x.later; adds = x.adds; temporaries = x.temporaries; onward = x.onward; ready = x.ready; value = tt; kept = x.kept })
