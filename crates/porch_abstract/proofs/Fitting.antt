-- A step keeps what a machine was made for.
use Rattle.std.proofs.Common.{◌≡◌, ◌≤◌, ◌<◌, ◌+◌, ℕ, ℤ, pos, List, [], ◌∷◌, ◌++◌, length, sym, ◌∙◌, ap, arith, refl, subst}
use Rattle.std.proofs.Math.ListN.{set}
use Rattle.std.proofs.lemmas.List.{length-map, length-set, length-replicate}
use Rattle.std.proofs.lemmas.Option.{slice_get_within}
use Rattle.std.specs.Prelude.{slice_get, replicate, Some, None, Result, Ok, Err, ⊤}
use Rattle.std.specs.declared.option.Option.{Option}
use Rattle.std.specs.declared.alloc.AllocError.{AllocError}
use Rattle.porch_values.specs.declared.widths.Widths.{Widths}
use Rattle.porch_objects.specs.Meaning.{Environment}
use Rattle.porch_flat.specs.declared.flat.Command.{Command}
use Rattle.porch_flat.specs.declared.flat.Function.{Function}
use Rattle.porch_flat.specs.declared.flat.Flat.{Flat}
use Rattle.porch_flat.specs.Labelled.{place_in}
use Rattle.porch_flat.specs.Parts.{commands_of, vars_of}
use Rattle.porch_flat.specs.Places.{place_of_label}
use Rattle.porch_abstract.specs.declared.run.Run.{Run}
use Rattle.porch_abstract.specs.declared.effects.Effect.{Effect}
use Rattle.porch_abstract.specs.declared.effects.Effect.TheVariants.{On, Set, Show, Go, Count, End, Meet}
use Rattle.porch_abstract.specs.declared.phase.AStep.{AStep}
use Rattle.porch_abstract.specs.declared.phase.AStep.TheVariants as astep
use Rattle.porch_abstract.specs.declared.phase.Phase.{Phase}
use Rattle.porch_abstract.specs.declared.phase.Phase.TheVariants.{Begun, Running, Over}
use Rattle.porch_abstract.specs.Machine.{State, Next, Goes, Ends, Meets, next}
use Rattle.porch_abstract.specs.inside.Effects.{effect_of, effect_at}
use Rattle.porch_abstract.specs.Held.{IsFrame, AreFrames, IsPhase, Answers, Continues}
use Rattle.porch_abstract.specs.inside.Kept.{int_object, main_frame, main_call, state_in, state_of, effected, led_to}
use Rattle.porch_abstract.proofs.Steps.{IsInts, main_commands, main_vars, labels_of_main, begun_next, running_next}
use Rattle.porch_abstract.proofs.Allowed.{IsAllowed, allowed}

-- a state has a frame for each call, and a function that is there in each frame
abbrev pub IsFitting : Flat → State → Type 0
IsFitting flat s = IsPhase flat s.phase s.store

-- the state that a step leads to is fitting, and goes on where the step does
abbrev pub FitsAfter : Flat → Next → Type 0
FitsAfter flat (Goes s) = IsFitting flat s × Continues s
FitsAfter flat (Ends z s) = IsFitting flat s
FitsAfter flat (Meets a) = ⊤

same_goes : (s t : State) → Goes s ≡ Goes t → s ≡ t
same_goes s t h = cc

same_ends : (y z : ℤ) (s t : State) → Ends y s ≡ Ends z t → s ≡ t
same_ends y z s t h = cc

went_on : (flat : Flat) (leads : Next) (new : State) → FitsAfter flat leads → leads ≡ Goes new → IsFitting flat new × Continues new
went_on flat (Goes s) new h e = subst (λ (t : State). IsFitting flat t × Continues t) (same_goes s new e) h
went_on flat (Ends z s) new h e = cc
went_on flat (Meets a) new h e = cc

ended_so : (flat : Flat) (leads : Next) (z : ℤ) (new : State) → FitsAfter flat leads → leads ≡ Ends z new → IsFitting flat new
ended_so flat (Goes s) z new h e = cc
ended_so flat (Ends y s) z new h e = subst (λ (t : State). IsFitting flat t) (same_ends y z s new e) h
ended_so flat (Meets a) z new h e = cc

-- the frames behind a step
pub frames_kept : (flat : Flat) (leads : Next) (old new : State) (r : Result AStep AllocError) → FitsAfter flat leads → IsFitting flat old → Answers leads old new r → IsFitting flat new
frames_kept flat leads old new (Ok astep.Went) h before e = let on = went_on flat leads new h e in on.0
frames_kept flat leads old new (Ok (astep.Ended z)) h before e = ended_so flat leads z new h e
frames_kept flat leads old new (Ok (astep.Act a)) h before e = subst (λ (t : State). IsFitting flat t) (sym e.1) before
frames_kept flat leads old new (Err x) h before e = subst (λ (t : State). IsFitting flat t) (sym e) before

-- a step that goes on leaves a state that continues
continues_by : (flat : Flat) (leads : Next) (old new : State) (r : Result AStep AllocError) → FitsAfter flat leads → Answers leads old new r → r ≡ Ok astep.Went → Continues new
continues_by flat leads old new r h a went =
    let P : Result AStep AllocError → Type 0 = λ r. Answers leads old new r in
    let on = went_on flat leads new h (subst P went a) in
    on.1

module _ (flat : Flat) (main : Function) (is : IsInts flat main) where
  call_of_main : (at : ℕ) (vars : List (Option ℤ)) → at ≤ length main.commands → length vars ≡ length main.vars → AreFrames flat (main_frame at) [] (main_call vars ∷ [])
  call_of_main at vars h n =
      let inside : 0 < length flat.functions = rw is.only (omega arith) in
      let place : at ≤ length (commands_of (slice_get flat.functions 0)) = rw (main_commands flat main is) h in
      let variables : length (main_call vars).variables ≡ length (vars_of (slice_get flat.functions 0)) = rw (main_vars flat main is) (length-map vars int_object ∙ n) in
      let frame : IsFrame flat (main_frame at) (main_call vars) = record { function = inside; command = place; variables = variables } in
      (frame, refl, refl, refl)

  runs_on : (at : ℕ) (vars : List (Option ℤ)) (output : List ℕ) (turns : ℕ) → at ≤ length main.commands → length vars ≡ length main.vars → FitsAfter flat (Goes (state_in Running vars at output turns))
  runs_on at vars output turns h n = (call_of_main at vars h n, λ e. cc)

  pub frames_called : (output : List ℕ) (turns : ℕ) → FitsAfter flat (Goes (state_in Running (replicate (length main.vars) None) 0 output turns))
  frames_called output turns = runs_on 0 (replicate (length main.vars) None) output turns (omega arith) (length-replicate (length main.vars) None)

  module _ (vars : List (Option ℤ)) (at : ℕ) (output : List ℕ) (turns : ℕ) (all : length vars ≡ length main.vars) where
    frames_effected : (c : Command) (effect : Effect) → at + 1 ≤ length main.commands → IsAllowed (length main.commands) c effect → FitsAfter flat (effected vars at output turns effect)
    frames_effected c On h a = runs_on (at + 1) vars output turns h all
    frames_effected c (Set v z) h a = runs_on (at + 1) (set vars v (Some z)) output turns h (length-set vars v (Some z) ∙ all)
    frames_effected c (Show v byte) h a = runs_on (at + 1) (set vars v (Some (pos 1))) (output ++ byte ∷ []) turns h (length-set vars v (Some (pos 1)) ∙ all)
    frames_effected c (Go place) h a = runs_on place vars output turns a all
    frames_effected c Count h a = runs_on (at + 1) vars output (turns + 1) h all
    frames_effected c (End z) h a = refl
    frames_effected c (Meet x) h a = tt

    pub frames_next : (labels : List (ℕ × ℕ)) (w : Widths) (placed : (n : ℕ) → place_in labels n ≡ place_of_label main.commands n) (o : Option Command) → slice_get main.commands at ≡ o
        → FitsAfter flat (effected vars at output turns (effect_at vars labels (length main.commands) w o))
    frames_next labels w placed None h = refl
    frames_next labels w placed (Some c) h =
        let within : at + 1 ≤ length main.commands = omega (arith, slice_get_within main.commands at c h) in
        frames_effected c (effect_of vars labels (length main.commands) w c) within (allowed vars labels w main.commands placed c)

-- the call of main has an object for each variable
vars_in : (flat : Flat) (main : Function) → IsInts flat main → (at : ℕ) (vars : List (Option ℤ)) → AreFrames flat (main_frame at) [] (main_call vars ∷ []) → length vars ≡ length main.vars
vars_in flat main is at vars h = sym (length-map vars int_object) ∙ h.0.variables ∙ ap (λ (vs : List ℕ). length vs) (main_vars flat main is)

pub vars_running : (flat : Flat) (main : Function) → IsInts flat main → (phase : Phase) (vars : List (Option ℤ)) (at : ℕ) (output : List ℕ) (turns : ℕ) → phase ≡ Running
    → IsFitting flat (state_in phase vars at output turns) → length vars ≡ length main.vars
vars_running flat main is Begun vars at output turns h f = cc
vars_running flat main is Running vars at output turns h f = vars_in flat main is at vars f
vars_running flat main is Over vars at output turns h f = cc

-- the first step, of a run that is kept
module _ (flat : Flat) (main : Function) (is : IsInts flat main) (old new : Run) (r : Result AStep AllocError) (count : ℕ) (n : count ≡ length main.vars) where
  abbrev begun : Next
  begun = Goes (state_in Running (replicate count None) 0 old.output.items (old.turns + 1))

  begun_fits : FitsAfter flat begun
  begun_fits =
      let P : ℕ → Type 0 = λ k. FitsAfter flat (Goes (state_in Running (replicate k None) 0 old.output.items (old.turns + 1))) in
      subst P (sym n) (frames_called flat main is old.output.items (old.turns + 1))

  pub begun_answers : (under : Environment) → old.phase ≡ Begun → Answers begun (state_of old) (state_of new) r → Answers (next flat under (state_of old)) (state_of old) (state_of new) r
  begun_answers under is_begun h =
      let P : Next → Type 0 = λ leads. Answers leads (state_of old) (state_of new) r in
      let e : Goes (state_in Running (replicate (length main.vars) None) 0 old.output.items (old.turns + 1)) ≡ begun = rw n refl in
      subst P (sym (begun_next flat under main is old.phase old.vars.items old.next old.output.items old.turns is_begun ∙ e)) h

  pub begun_frames : IsFitting flat (state_of old) → Answers begun (state_of old) (state_of new) r → IsFitting flat (state_of new)
  begun_frames before h = frames_kept flat begun (state_of old) (state_of new) r begun_fits before h

  pub begun_continues : Answers begun (state_of old) (state_of new) r → r ≡ Ok astep.Went → Continues (state_of new)
  begun_continues h went = continues_by flat begun (state_of old) (state_of new) r begun_fits h went

-- a later step
module _ (flat : Flat) (under : Environment) (main : Function) (is : IsInts flat main) (labels : List (ℕ × ℕ)) (placed : (n : ℕ) → place_in labels n ≡ place_of_label (commands_of (slice_get flat.functions 0)) n)
    (old new : Run) (r : Result AStep AllocError) (is_running : old.phase ≡ Running) where
  abbrev leads_on : Next
  leads_on = led_to old (effect_at old.vars.items labels (length main.commands) under.widths (slice_get main.commands old.next))

  running_fits : IsFitting flat (state_of old) → FitsAfter flat leads_on
  running_fits before =
      let all = vars_running flat main is old.phase old.vars.items old.next old.output.items old.turns is_running before in
      frames_next flat main is old.vars.items old.next old.output.items old.turns all labels under.widths (labels_of_main flat main labels is placed) (slice_get main.commands old.next) refl

  pub running_answers : Answers leads_on (state_of old) (state_of new) r → Answers (next flat under (state_of old)) (state_of old) (state_of new) r
  running_answers h =
      let P : Next → Type 0 = λ leads. Answers leads (state_of old) (state_of new) r in
      subst P (sym (running_next flat under main is labels placed old.phase old.vars.items old.next old.output.items old.turns is_running)) h

  pub running_frames : IsFitting flat (state_of old) → Answers leads_on (state_of old) (state_of new) r → IsFitting flat (state_of new)
  running_frames before h = frames_kept flat leads_on (state_of old) (state_of new) r (running_fits before) before h

  pub running_continues : IsFitting flat (state_of old) → Answers leads_on (state_of old) (state_of new) r → r ≡ Ok astep.Went → Continues (state_of new)
  running_continues before h went = continues_by flat leads_on (state_of old) (state_of new) r (running_fits before) h went
