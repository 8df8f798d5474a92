-- What is looked up for the innermost frame, and the bytes that it leaves.
use Rattle.std.proofs.Common.{◌≡◌, ◌<◌, ◌≤◌, ℕ, ◌+◌, ◌-◌, List, ◌∷◌, length, refl, sym, ap, ◌∙◌, subst, arith, None, Some}
use Rattle.std.specs.Prelude.{Vec, slice_get}
use Rattle.std.specs.declared.alloc.Global.{Global}
use Rattle.std.proofs.lemmas.Option.{slice_get_within}
use Rattle.porch_bytes.specs.declared.access.Parts.{Parts}
use Rattle.porch_bytes.specs.Memory.{stack_begin, frame_size}
use Rattle.porch_bytes.specs.State.{Frame, widths_of}
use Rattle.porch_bytes.specs.Column.{used}
use Rattle.porch_instructions.specs.declared.instruction.Context.{Context}
use Rattle.porch_operations.specs.declared.operation.Operation.{Operation}
use Rattle.porch_frames.specs.declared.passing.Passing.{Passing}
use Rattle.porch_load.specs.declared.body.Body.{Body}
use Rattle.porch_load.specs.declared.loaded.Loaded.{Loaded}
use Rattle.porch_load.specs.Calls.{IsLinked, AreLinked}
use Rattle.porch_load.specs.Loaded.{setting_in, Calls, IsLoaded}
use Rattle.porch_stack.specs.declared.spot.Spot.{Spot}
use Rattle.porch_stack.specs.declared.spot.Stage.TheVariants.{Running}
use Rattle.porch_stack.specs.Holding.{frame_of, callers_of, Stands}
use Rattle.porch_stack.specs.Next.{HasNext, HasPassings}
use Rattle.porch_stack.proofs.Found.{linked_at, calls_at}
use Rattle.porch_stack.proofs.Geometry.{here_in, held_in, used_fits}
use Rattle.porch_stack.proofs.NextOperation.{is_body}

same_value : {A : Type 0} (a b : A) → Some a ≡ Some b → a ≡ b
same_value a b h = cc

-- the size of a function's frames
pub size_of : (l : Loaded) → IsLoaded l → (function : ℕ) (body : Body) → slice_get l.bodies.items function ≡ Some body → body.size ≡ frame_size l.metrics.layout l.program function
size_of l loaded function body h = (is_body l loaded (record { function = function; next = 0; at = 0; into = None }) body h).size_is

module _ (l : Loaded) (loaded : IsLoaded l) (frame : Frame) where
  calls_of : (body : Body) → slice_get l.bodies.items frame.function ≡ Some body
      → (more : Calls) × ((slice_get l.calls.items frame.function ≡ Some more) × AreLinked (widths_of l.metrics.layout) l.metrics l.bodies.items body body.operations.items more.items)
  calls_of body h = calls_at (widths_of l.metrics.layout) l.metrics l.bodies.items frame.function l.bodies.items l.calls.items body loaded.linked h

  pub calls_within : HasNext l frame → frame.function < length l.calls.items
  calls_within next = slice_get_within l.calls.items frame.function (calls_of next.body next.body_is).0 (calls_of next.body next.body_is).1.0

  module _ (calls : Calls) (calls_is : slice_get l.calls.items frame.function ≡ Some calls) where
    linked_here : (body : Body) → slice_get l.bodies.items frame.function ≡ Some body
        → AreLinked (widths_of l.metrics.layout) l.metrics l.bodies.items body body.operations.items calls.items
    linked_here body h =
        subst (λ (x : Calls). AreLinked (widths_of l.metrics.layout) l.metrics l.bodies.items body body.operations.items x.items)
        (same_value (calls_of body h).0 calls (sym (calls_of body h).1.0 ∙ calls_is)) (calls_of body h).1.1

    one_here : (body : Body) (o : Operation) → slice_get l.bodies.items frame.function ≡ Some body → slice_get body.operations.items frame.next ≡ Some o
        → (ps : Vec Passing Global) × ((slice_get calls.items frame.next ≡ Some ps) × IsLinked (widths_of l.metrics.layout) l.metrics l.bodies.items body o ps.items)
    one_here body o h k = linked_at (widths_of l.metrics.layout) l.metrics l.bodies.items body frame.next body.operations.items calls.items o (linked_here body h) k

    pub next_within : HasNext l frame → frame.next < length calls.items
    next_within next =
        slice_get_within calls.items frame.next (one_here next.body next.operation next.body_is next.stands).0 (one_here next.body next.operation next.body_is next.stands).1.0

    pub has_passings : (ps : Vec Passing Global) → slice_get calls.items frame.next ≡ Some ps → HasPassings l frame ps.items
    has_passings ps is body o h k =
        subst (λ (x : Vec Passing Global). IsLinked (widths_of l.metrics.layout) l.metrics l.bodies.items body o x.items)
        (same_value (one_here body o h k).0 ps (sym (one_here body o h k).1.0 ∙ is)) (one_here body o h k).1.1

-- the bytes of the stack that frames take
module _ (l : Loaded) (loaded : IsLoaded l) (spot : Spot) (size : ℕ) (stage : spot.stage ≡ Running) (stands : Stands l spot size) where
  ends : spot.here.parts.stack_end ≡ stack_begin l.metrics.layout l.program + used l.program (setting_in l) (frame_of spot.frame ∷ callers_of spot.callers.items)
  ends = ap (λ (c : Context). c.parts.stack_end) (here_in l spot size stands stage)

  begins : l.map.stack ≡ stack_begin l.metrics.layout l.program
  begins = ap (λ (p : Parts). p.stack) loaded.map_is

  pub begins_before : l.map.stack ≤ spot.here.parts.stack_end
  begins_before = omega (arith, ends, begins)

  pub taken_fits : spot.here.parts.stack_end - l.map.stack ≤ l.stack
  taken_fits = omega (arith, ends, begins, used_fits l loaded (frame_of spot.frame ∷ callers_of spot.callers.items) (held_in l spot size stands stage))
