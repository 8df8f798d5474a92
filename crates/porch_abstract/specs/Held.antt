-- What contracts see of an abstract machine, and what a step of it answers.
use Rattle.std.specs.Prelude.{ℕ, ◌≡◌, ◌<◌, ◌≤◌, List, [], ◌∷◌, length, slice_get, Result, Ok, Err}
use Rattle.std.specs.declared.alloc.AllocError.{AllocError}
use Rattle.porch_objects.specs.Meaning.{Environment}
use Rattle.porch_objects.specs.Store.{Activation, Store}
use Rattle.porch_flat.specs.declared.flat.Flat.{Flat}
use Rattle.porch_flat.specs.Labelled.{place_in}
use Rattle.porch_flat.specs.Parts.{commands_of, vars_of}
use Rattle.porch_flat.specs.Places.{place_of_label}
use Rattle.porch_abstract.specs.declared.phase.AStep.{AStep}
use Rattle.porch_abstract.specs.declared.phase.AStep.TheVariants as astep
use Rattle.porch_abstract.specs.Machine.{Frame, Phase, before, running, over, State, Next, Goes, Ends, Meets, code_of}

-- what contracts see of an abstract machine: the environment that it was made for, its state, and the places of the labels
-- of the program that it was made for
pub record Held : Type 0 where
  pub under : Environment
  pub state : State
  pub labels : List (ℕ × ℕ)

-- a frame names a function and a command of the program, and its call has an object for each variable
pub record IsFrame (flat : Flat) (frame : Frame) (call : Activation) : Type 0 where
  pub function : frame.function < length flat.functions
  pub command : frame.next ≤ length (code_of flat frame)
  pub variables : length call.variables ≡ length (vars_of (slice_get flat.functions frame.function))

-- the frames and the calls of the store belong together, one by one: so far there is that of main alone
abbrev pub AreFrames : Flat → Frame → List Frame → List Activation → Type 0
AreFrames flat frame callers [] = ⊥
AreFrames flat frame callers (call ∷ calls) = IsFrame flat frame call × (frame.function ≡ 0) × (callers ≡ []) × (calls ≡ [])

abbrev pub IsPhase : Flat → Phase → Store → Type 0
IsPhase flat before store = store.calls ≡ []
IsPhase flat (running frame callers) store = AreFrames flat frame callers store.calls
IsPhase flat over store = store.calls ≡ []

-- an abstract machine was made for this program, or for an equal one
pub record Fits (flat : Flat) (held : Held) : Type 0 where
  pub labels : (n : ℕ) → place_in held.labels n ≡ place_of_label (commands_of (slice_get flat.functions 0)) n
  pub frames : IsPhase flat held.state.phase held.state.store

-- It hasn't ended.
abbrev pub Continues : State → Type 0
Continues s = s.phase ≡ over → ⊥

-- what a step answers: of a refusal, nothing but that the state is the same
abbrev pub Answers : Next → State → State → Result AStep AllocError → Type 0
Answers next old new (Ok astep.Went) = next ≡ Goes new
Answers next old new (Ok (astep.Ended z)) = next ≡ Ends z new
Answers next old new (Ok (astep.Act a)) = (next ≡ Meets a) × (new ≡ old)
Answers next old new (Err e) = new ≡ old
