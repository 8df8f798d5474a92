-- When a machine stands for a state of the flat abstract machine, and what a step of both comes to.
use Rattle.std.specs.Prelude.{ℕ, ◌≡◌, ◌<◌, ℤ, List, ◌++◌, slice_get, Some, ⊤}
use Rattle.porch_values.specs.declared.widths.Widths.{Widths}
use Rattle.porch_objects.specs.Meaning.{Environment}
use Rattle.porch_flat.specs.declared.whole.Command.{Command}
use Rattle.porch_flat.specs.declared.whole.Flat.{Flat}
use Rattle.porch_flat.specs.whole.Form as form
use Rattle.porch_flat.specs.whole.Form.{Form, form_of}
use Rattle.porch_abstract.specs.Machine as abstract
use Rattle.porch_abstract.specs.whole.Machine.{next as next_state}
use Rattle.porch_bytes.specs.State.{Setting, Frame, running, State}
use Rattle.porch_bytes.specs.Column.{Next, Goes, Shows, IsDue, Ends, StackIsFull, HeapIsFull, next, code_of}
use Rattle.porch_bytes.specs.Fits.{Fits}
use Rattle.porch_bytes.specs.StandsFor.{StandsFor}

-- each element of memory is a byte
abbrev pub AreBytes : List ℕ → Type 0
AreBytes memory = (i byte : ℕ) → slice_get memory i ≡ Some byte → byte < 256

-- A machine that was prepared for a program and went through steps of it stands for a state.
pub record IsStoodFor (flat : Flat) (on : Setting) (w : Widths) (m : State) (s : abstract.State) : Type 0 where
  pub fits : Fits flat on m
  pub bytes : AreBytes m.memory
  pub stands : StandsFor flat on w m s

-- The machine stands for the state that a step led to, where so much was shown.
pub record IsNext (flat : Flat) (on : Setting) (w : Widths) (output : List ℕ) (m : State) (s : abstract.State) : Type 0 where
  pub stood_for : IsStoodFor flat on w m s
  pub output_is : s.output ≡ output

-- The program ended in both, with one value, after as many turns, and with the same output.
pub record IsLast (output : List ℕ) (y z : ℤ) (m : State) (s : abstract.State) : Type 0 where
  pub value_is : z ≡ y
  pub turns_are : m.turns ≡ s.turns
  pub output_is : s.output ≡ output

module _ (flat : Flat) (on : Setting) (w : Widths) (output : List ℕ) where
  -- What a step of the machine comes to, beside one of the abstract machine before which so much was shown: where
  -- the latter meets no act, the machine stands for what follows, with the output that it showed, or a frame or a
  -- block found no place. It never traps.
  abbrev pub Follows : Next → abstract.Next → Type 0
  Follows (Goes m) (abstract.Goes s) = IsNext flat on w output m s
  Follows (Shows m) (abstract.Goes s) = IsNext flat on w (output ++ m.shown) m s
  Follows (IsDue m) (abstract.Goes s) = IsNext flat on w output m s
  Follows (Ends z m) (abstract.Ends y s) = IsLast output y z m s
  Follows (StackIsFull asked left) to = ⊤
  Follows (HeapIsFull lacking) to = ⊤
  Follows step (abstract.Meets a) = ⊤
  Follows _ _ = ⊥

-- the commands that neither read nor write an object
abbrev pub TouchesNone : Form → Type 0
TouchesNone (form.label n) = ⊤
TouchesNone (form.jump n) = ⊤
TouchesNone form.turn = ⊤
TouchesNone form.checkpoint = ⊤
TouchesNone (form.restore vs) = ⊤
TouchesNone (form.table k n) = ⊤
TouchesNone (form.saved k n) = ⊤
TouchesNone (form.push vs) = ⊤
TouchesNone _ = ⊥

-- A step by such a command, from a machine that stands for a state.
abbrev pub StepsFollow : Type 0
StepsFollow =
    (flat : Flat) (on : Setting) (under : Environment) (m : State) (s : abstract.State) (frame : Frame) (callers : List Frame) (c : Command)
    → IsStoodFor flat on under.widths m s → m.phase ≡ running frame callers
    → slice_get (code_of flat on frame.function) frame.next ≡ Some c → TouchesNone (form_of c)
    → Follows flat on under.widths s.output (next flat on m) (next_state flat under s)
