-- A variable of the source is read, and its value goes to another one, or is dropped.
use Rattle.std.proofs.Common.{◌≡◌, ℕ, ◌+◌, [], ◌∷◌, refl, ap, subst, ◌∙◌, inr, Some, None}
use Rattle.std.specs.Prelude.{unwrap_or, slice_get, Result, Ok}
use Rattle.porch_types.specs.LeafTypes.{IsScalar}
use Rattle.porch_values.specs.declared.acts.Act.{Act}
use Rattle.porch_objects.specs.Store.{of_call, Value, number, null, pointer, past, indeterminate, seen, leaf_at}
use Rattle.porch_objects.specs.Pointers.{if_there}
use Rattle.porch_flat.specs.declared.flat.Operand.TheVariants.{Var}
use Rattle.porch_flat.specs.declared.whole.Command.TheVariants as command
use Rattle.porch_abstract.specs.Machine.{Next, determined}
use Rattle.porch_abstract.specs.whole.Machine.{if_ok}
use Rattle.porch_mean.specs.Outcome.{Went, with_result}
use Rattle.porch_lowering.specs.Code.{plain, Coder}
use Rattle.porch_sound.specs.Laws.{Gives}
use Rattle.porch_lowered.proofs.Typed.{adds_nothing}
use Rattle.porch_lowered.proofs.Codes.{Context, here, goes_on, IsOf, Follow, Arrives, Codes}
use Rattle.porch_lowered.proofs.Holding.{IsSetting, kept_types}
use Rattle.porch_lowered.proofs.Operands.{variable_is, when_there, use_follows}
use Rattle.porch_lowered.proofs.Commands.{command_follows}
use Rattle.porch_lowered.proofs.Held.{use_now}
use Rattle.porch_lowered.proofs.Atoms.{variable_typed}

pub moved_there : (x : Value) (go : Value → Next) → determined x go ≡ if_ok (if_there x (λ v. let r : Result Value Act = Ok v in r)) go
moved_there (number z) go = refl
moved_there null go = refl
moved_there (pointer home leaf) go = refl
moved_there (past home leaf until) go = refl
moved_there indeterminate go = refl

pub there_of : (P : Value → Type 0) (x : Value) → P x → Gives P (if_there x (λ v. let r : Result Value Act = Ok v in r))
there_of P (number z) p = p
there_of P null p = p
there_of P (pointer home leaf) p = p
there_of P (past home leaf until) p = p
there_of P indeterminate p = tt

module _ (c : Context) (set : IsSetting c) where
  -- the code: it goes to where it is asked for, and is moved to itself where it is dropped
  abbrev pub variable_code : ℕ → Coder
  variable_code v to used label = plain (command.Move (unwrap_or to v) (Var v) ∷ []) used label

  itself_there : (x : Value) → when_there c x (Ok x) ≡ if_there x (λ v. Ok v)
  itself_there (number z) = refl
  itself_there null = refl
  itself_there (pointer home leaf) = refl
  itself_there (past home leaf until) = refl
  itself_there indeterminate = refl

  pub variables_code : (ty v : ℕ) → slice_get c.variables v ≡ Some ty → IsScalar (slice_get c.flat.types ty)
      → Codes c ty (λ s. use_now (leaf_at s.store (of_call c.call v) 0) s) (variable_code v)
  variables_code ty v declared scalar None used label place made s ts ready may room stands =
      let w = leaf_at s.store (of_call c.call v) 0 in
      let of = variable_typed c set made s ts v ty ready declared scalar in
      subst (λ r. Follow c (with_result r s (λ v s. Went v s)) (here c s ts place) s.marks (Arrives c ty made None used ts (here c s ts place) s.marks (place + 1)))
      (itself_there (seen s.store w))
      (use_follows c set made s ts place ty used (Var v) w (Ok (seen s.store w)) (Arrives c ty made None used ts (here c s ts place) s.marks (place + 1))
      (Arrives c ty made None used ts (here c s ts place) s.marks (place + 1)) ready (inr (record { declared = declared; stands = refl })) of stands
      (λ on.
      record {
        later = made;
        adds = adds_nothing made;
        temporaries = ts;
        onward = on;
        ready = ready;
        value = (kept_types c set made s ts ready).values ty w of;
        kept = λ i u ne. refl;
      }))
  variables_code ty v declared scalar (Some d) used label place made s ts ready may room stands =
      let w = leaf_at s.store (of_call c.call v) 0 in
      let of = variable_typed c set made s ts v ty ready declared scalar in
      command_follows c ty d place (command.Move d (Var v)) made s ts used (if_there (seen s.store w) (λ v. Ok v)) ready stands.0
      (record { calm = refl; silent = λ s frame. refl })
      (ap (λ x. determined x (goes_on c d place s ts)) (variable_is c set made s ts place ty v used w ready (inr (record { declared = declared; stands = refl })) of)
      ∙ moved_there (seen s.store w) (goes_on c d place s ts))
      (there_of (IsOf c made ty) (seen s.store w) ((kept_types c set made s ts ready).values ty w of))
