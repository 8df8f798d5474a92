-- How a run of a valid program is kept, and which state it stands for: one frame, of ints. Only private contracts cite it.
use Rattle.std.specs.Prelude.{ℕ, ◌+◌, ℤ, pos, List, [], ◌∷◌, ◌++◌, map, replicate, slice_set, Option, Some, None, Result}
use Rattle.std.specs.declared.alloc.AllocError.{AllocError}
use Rattle.porch_objects.specs.Store.{Value, number, indeterminate, one_of, Object, Activation, Store, store_of}
use Rattle.porch_flat.specs.Valid.{int_type}
use Rattle.porch_abstract.specs.declared.effects.Effect.{Effect}
use Rattle.porch_abstract.specs.declared.effects.Effect.TheVariants.{On, Set, Show, Go, Count, End, Meet}
use Rattle.porch_abstract.specs.declared.phase.Phase as kept
use Rattle.porch_abstract.specs.declared.phase.Phase.TheVariants.{Begun, Running, Over}
use Rattle.porch_abstract.specs.declared.run.Run.{Run}
use Rattle.porch_abstract.specs.declared.phase.AStep.{AStep}
use Rattle.porch_abstract.specs.Held.{Answers}
use Rattle.porch_abstract.specs.Machine.{Frame, Phase, before, running, over, State, Next, Goes, Ends, Meets}

-- the value of a variable
abbrev pub value_of : Option ℤ → Value
value_of None = indeterminate
value_of (Some z) = number z

-- the object of an int variable
abbrev pub int_object : Option ℤ → Object
int_object x = record { root = one_of int_type; leaves = value_of x ∷ [] }

-- the frame of main
abbrev pub main_frame : ℕ → Frame
main_frame next = record { function = 0; next = next; into = None }

abbrev pub phase_in : kept.Phase → ℕ → Phase
phase_in Begun next = before
phase_in Running next = running (main_frame next) []
phase_in Over next = over

-- the call of main, which is the first of all
abbrev pub main_call : List (Option ℤ) → Activation
main_call vars = record { number = 0; variables = map int_object vars }

-- so many calls were made, and these haven't returned
abbrev pub calls_alone : List Activation → ℕ → Store
calls_alone calls called = record { globals = []; calls = calls; blocks = []; called = called; allocated = 0; checkpoints = 0 }

abbrev pub store_in : kept.Phase → List (Option ℤ) → Store
store_in Begun vars = store_of []
store_in Running vars = calls_alone (main_call vars ∷ []) 1
store_in Over vars = calls_alone [] 1

-- the state of so much that is kept
abbrev pub state_in : kept.Phase → List (Option ℤ) → ℕ → List ℕ → ℕ → State
state_in phase vars next output turns =
    record { phase = phase_in phase next; store = store_in phase vars; output = output; turns = turns; taken = 0 }

abbrev pub state_of : Run → State
state_of run = state_in run.phase run.vars.items run.next run.output.items run.turns

-- what an effect leads to
abbrev pub effected : List (Option ℤ) → ℕ → List ℕ → ℕ → Effect → Next
effected vars next output turns On = Goes (state_in Running vars (next + 1) output turns)
effected vars next output turns (Set v z) = Goes (state_in Running (slice_set vars v (Some z)) (next + 1) output turns)
effected vars next output turns (Show v byte) = Goes (state_in Running (slice_set vars v (Some (pos 1))) (next + 1) (output ++ byte ∷ []) turns)
effected vars next output turns (Go place) = Goes (state_in Running vars place output turns)
effected vars next output turns Count = Goes (state_in Running vars (next + 1) output (turns + 1))
effected vars next output turns (End z) = Ends z (state_in Over vars next output turns)
effected vars next output turns (Meet a) = Meets a

-- what an effect leads to, from what is kept
abbrev pub led_to : Run → Effect → Next
led_to run effect = effected run.vars.items run.next run.output.items run.turns effect

-- what an effect leads to is answered
abbrev pub Led : Run → Run → Effect → Result AStep AllocError → Type 0
Led old new effect r = Answers (led_to old effect) (state_of old) (state_of new) r

-- the call of main, which has so many variables, is answered
abbrev pub Called : Run → Run → ℕ → Result AStep AllocError → Type 0
Called old new count r =
    Answers (Goes (state_in Running (replicate count None) 0 old.output.items (old.turns + 1))) (state_of old) (state_of new) r
