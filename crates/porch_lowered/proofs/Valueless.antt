-- What has no value: `checkpoint()`, and the declaration of a variable that is reached.
use Rattle.std.proofs.Common.{◌≡◌, ℕ, ◌+◌, List, length, refl, Some, None}
use Rattle.std.specs.Prelude.{slice_get, replicate}
use Rattle.porch_objects.specs.Store.{of_call, indeterminate, Object, with_leaves, forgotten}
use Rattle.porch_objects.specs.Meaning.{Progress, with_store}
use Rattle.porch_flat.specs.declared.whole.Command.TheVariants as command
use Rattle.porch_mean.specs.Outcome.{done}
use Rattle.porch_mean.specs.Expression.{reach_checkpoint}
use Rattle.porch_lowering.specs.Code.{InUse}
use Rattle.porch_sound.specs.Typing.{StoreTyping}
use Rattle.porch_lowered.proofs.Typed.{counts, adds_nothing}
use Rattle.porch_lowered.proofs.Control.{kill_goes, checkpoint_goes}
use Rattle.porch_lowered.proofs.Codes.{Context, commands, here, Follow, IsReady, grounded, Arrives}
use Rattle.porch_lowered.proofs.Holding.{IsSetting, kept_types}
use Rattle.porch_lowered.proofs.Operands.{is_declared}
use Rattle.porch_lowered.proofs.Stores.{inside_changed}

module _ (c : Context) (set : IsSetting c) where
  -- `checkpoint()` is reached, with its mark; every shared end is missing from now on
  pub checkpoint_follows : (ty place : ℕ) (made : StoreTyping) (s : Progress) (ts : List Object) (used : InUse) → IsReady c made s ts
      → slice_get (commands c) place ≡ Some command.Checkpoint
      → Follow c (done (reach_checkpoint s)) (here c s ts place) s.marks (Arrives c ty made None used ts (here c s ts place) s.marks (place + 1))
  checkpoint_follows ty place made s ts used ready stands =
      record {
        later = made;
        adds = adds_nothing made;
        temporaries = ts;
        onward = checkpoint_goes c.flat c.under c.n c.function c.into c.callers c.more s ts place stands;
        ready =
            record {
              typed = (kept_types c set made s ts ready).reaches;
              inside = record { variables = ready.inside.variables; callers = ready.inside.callers; here = ready.inside.here };
              declares = ready.declares;
              globals = ready.globals;
              temporaries = ready.temporaries;
            };
        value = tt;
        kept = λ i u ne. refl;
      }

  -- a declaration is reached: the variable has no value
  pub declared_follows : (ty ty' v place : ℕ) (made : StoreTyping) (s : Progress) (ts : List Object) (used : InUse) → IsReady c made s ts
      → slice_get c.variables v ≡ Some ty → slice_get (commands c) place ≡ Some (command.Kill v)
      → Follow c (done (with_store s (forgotten s.store (of_call c.call v)))) (here c s ts place) s.marks
      (Arrives c ty' made None used ts (here c s ts place) s.marks (place + 1))
  declared_follows ty ty' v place made s ts used ready declared stands =
      record {
        later = made;
        adds = adds_nothing made;
        temporaries = ts;
        onward =
            kill_goes c.flat c.under c.n c.function c.into c.callers c.more s ts place (counts made) c.call v (grounded c made s ts ready) ready.inside
            (is_declared c set made s ts v ty ready declared) stands;
        ready =
            record {
              typed = (kept_types c set made s ts ready).forgets (of_call c.call v);
              inside = inside_changed (λ o. with_leaves o (replicate (length o.leaves) indeterminate)) c.call s.store (of_call c.call v) ready.inside;
              declares = ready.declares;
              globals = ready.globals;
              temporaries = ready.temporaries;
            };
        value = tt;
        kept = λ i u ne. refl;
      }
