-- Commands that go on elsewhere, count a turn, or change the state and make no value.
use Rattle.std.proofs.Common.{◌≡◌, ℕ, ◌+◌, List, ◌∷◌, length, refl, ap, ◌∙◌, Option, Some}
use Rattle.std.specs.Prelude.{slice_get, unwrap_or, nat_le, replicate}
use Rattle.porch_objects.specs.Store.{of_call, Value, indeterminate, Object, Store, with_leaves, forgotten}
use Rattle.porch_objects.specs.Meaning.{Environment, Progress, with_store, with_turn}
use Rattle.porch_flat.specs.declared.whole.Command.{Command}
use Rattle.porch_flat.specs.declared.whole.Command.TheVariants as command
use Rattle.porch_flat.specs.declared.whole.Flat.{Flat}
use Rattle.porch_flat.specs.whole.Places.{place_of_label}
use Rattle.porch_abstract.specs.Machine.{Frame, State, running, Next, Goes}
use Rattle.porch_mean.specs.Outcome.{Outcome, Stopped, count_turn}
use Rattle.porch_mean.specs.Expression.{reach_checkpoint}
use Rattle.porch_lowered.specs.Beside.{beside, IsDeclared, IsGroundedStore}
use Rattle.porch_lowered.proofs.ChangeAlike.{changed_alike}
use Rattle.porch_lowered.proofs.Runs.{GoesOn, step_goes, step_quietly, step_pauses}
use Rattle.porch_lowered.proofs.Follows.{Follows, follows_either, follows_from}
use Rattle.porch_lowered.proofs.Temporaries.{IsInside, innermost_is}
use Rattle.porch_lowered.proofs.States.{frame_at, state_of, commands, command_goes, next_is, pauses_where, marks_are}

module _ (flat : Flat) (under : Environment) (n function : ℕ) (into : Option ℕ) (callers : List Frame) (more : List (List Object))
    (s : Progress) (ts : List Object) (place : ℕ) where
  abbrev at : ℕ → State
  at = state_of flat under n function into callers more s ts

  abbrev all : List Command
  all = commands flat under n function into callers more

  -- a label does nothing
  pub label_goes : (l : ℕ) → slice_get all place ≡ Some (command.Label l) → GoesOn flat under n (at place) s.marks (at (place + 1)) s.marks
  label_goes l h =
      command_goes flat under n function into callers more (command.Label l) place (at place) h (record { calm = refl; silent = λ s frame. refl })
      (at (place + 1)) s.marks refl

  -- a jump goes on at its label
  pub jump_goes : (l q : ℕ) → slice_get all place ≡ Some (command.Jump l) → place_of_label all l ≡ Some q
      → GoesOn flat under n (at place) s.marks (at q) s.marks
  jump_goes l q h e =
      command_goes flat under n function into callers more (command.Jump l) place (at place) h (record { calm = refl; silent = λ s frame. refl })
      (at q) s.marks (ap (λ found. Goes (at (unwrap_or found (length all)))) e)

  -- KILL takes a variable's value away
  pub kill_goes : (declared : List ℕ) (call v : ℕ) → IsGroundedStore declared s.store → IsInside call s.store → IsDeclared declared (of_call call v)
      → slice_get all place ≡ Some (command.Kill v)
      → GoesOn flat under n (at place) s.marks
      (state_of flat under n function into callers more (with_store s (forgotten s.store (of_call call v))) ts (place + 1)) s.marks
  kill_goes declared call v grounded inside known h =
      command_goes flat under n function into callers more (command.Kill v) place (at place) h (record { calm = refl; silent = λ s frame. refl })
      (state_of flat under n function into callers more (with_store s (forgotten s.store (of_call call v))) ts (place + 1)) s.marks
      (ap (λ store. going_with store)
      (ap (λ k. forgotten (beside s.store (ts ∷ more)) (of_call k v)) (innermost_is call s.store inside (ts ∷ more))
      ∙ changed_alike declared s.store (ts ∷ more) grounded (λ o. with_leaves o (replicate (length o.leaves) indeterminate)) (of_call call v) known))
    where
      going_with : Store → Next
      going_with store =
          Goes (record { phase = running (frame_at flat under n function into callers more (place + 1)) callers; store = store; output = s.output; turns = s.turns; taken = s.taken })

  -- CHECKPOINT reaches a checkpoint, and tells its mark
  pub checkpoint_goes : slice_get all place ≡ Some command.Checkpoint
      → GoesOn flat under n (at place) s.marks
      (state_of flat under n function into callers more (reach_checkpoint s) ts (place + 1)) (reach_checkpoint s).marks
  checkpoint_goes h =
      let there = state_of flat under n function into callers more (reach_checkpoint s) ts (place + 1) in
      let goes =
      step_goes flat under n (at place) there s.marks
      (pauses_where flat under n function into callers more command.Checkpoint place (at place) h)
      (next_is flat under n function into callers more command.Checkpoint place (at place) h) in
      rw (marks_are flat under n function into callers more command.Checkpoint place (at place) h) at goes

  -- TURN counts a turn, or the run is paused before it
  pub turn_follows : (go : Progress → Outcome) (near far : Value → Progress → Type 0) → slice_get all place ≡ Some command.Turn
      → ((v : Value) (u : Progress) → far v u → near v u)
      → Follows flat under n (go (with_turn s)) (state_of flat under n function into callers more (with_turn s) ts (place + 1)) s.marks far
      → Follows flat under n (count_turn n s go) (at place) s.marks near
  turn_follows go near far h to follows =
      let pauses = pauses_where flat under n function into callers more command.Turn place (at place) h in
      follows_either flat under n (nat_le n s.turns) (λ s. Stopped s) (λ s. go (with_turn s)) s (at place) s.marks near
      (λ e. record { last = at place; runs = step_pauses flat under n (at place) s.marks (pauses ∙ e); output = refl; turns = refl })
      (λ e.
      follows_from flat under n (go (with_turn s)) (at place) (state_of flat under n function into callers more (with_turn s) ts (place + 1)) s.marks s.marks near far
      (step_quietly flat under n (at place) (state_of flat under n function into callers more (with_turn s) ts (place + 1)) s.marks (pauses ∙ e)
      (next_is flat under n function into callers more command.Turn place (at place) h)
      (marks_are flat under n function into callers more command.Turn place (at place) h))
      to follows)
