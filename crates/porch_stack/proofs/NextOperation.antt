-- The operation of a place does what the command of that place does.
use Rattle.std.proofs.Common.{◌≡◌, ◌<◌, ℕ, ◌+◌, ◌^◌, List, length, refl, sym, ap, ◌∙◌, subst, arith, Option, Some, None}
use Rattle.std.specs.Prelude.{Vec, slice_get, IfSome, IfNone}
use Rattle.std.specs.declared.alloc.Global.{Global}
use Rattle.std.proofs.lemmas.Option.{slice_get_within}
use Rattle.porch_flat.specs.declared.whole.Command.{Command}
use Rattle.porch_bytes.specs.State.{Frame, State, widths_of}
use Rattle.porch_bytes.specs.Column.{code_of}
use Rattle.porch_operations.specs.declared.operation.Operation.{Operation}
use Rattle.porch_frames.specs.declared.passing.Passing.{Passing}
use Rattle.porch_code.specs.Code.{DoesCommand}
use Rattle.porch_load.specs.declared.body.Body.{Body}
use Rattle.porch_load.specs.declared.loaded.Loaded.{Loaded}
use Rattle.porch_load.specs.Bodies.{IsBody}
use Rattle.porch_load.specs.Calls.{IsLinked, AreLinked}
use Rattle.porch_load.specs.Loaded.{setting_in, Calls, ReturnsInt, AllReturnInts, IsLoaded}
use Rattle.porch_stack.specs.Next.{DoesNext}
use Rattle.porch_stack.proofs.Found.{body_from, code_at, code_ends, linked_at, calls_at, counts_at, int_at}

same_body : (a b : Body) → Some a ≡ Some b → a ≡ b
same_body a b h = cc

module _ (l : Loaded) (loaded : IsLoaded l) (frame : Frame) (body : Body) (body_is : slice_get l.bodies.items frame.function ≡ Some body) where
  pub is_body : IsBody l.program (setting_in l) frame.function body
  is_body = body_from l.program (setting_in l) 0 frame.function frame.function l.program.functions l.bodies.items body loaded.bodies_are body_is (omega arith)

  linked : (o : Operation) → slice_get body.operations.items frame.next ≡ Some o
      → (ps : Vec Passing Global) × IsLinked (widths_of l.metrics.layout) l.metrics l.bodies.items body o ps.items
  linked o k =
      let calls : (more : Calls) × ((slice_get l.calls.items frame.function ≡ Some more) × AreLinked (widths_of l.metrics.layout) l.metrics l.bodies.items body body.operations.items more.items) =
      calls_at (widths_of l.metrics.layout) l.metrics l.bodies.items frame.function l.bodies.items l.calls.items body loaded.linked body_is in
      let at : (ps : Vec Passing Global) × ((slice_get calls.0.items frame.next ≡ Some ps) × IsLinked (widths_of l.metrics.layout) l.metrics l.bodies.items body o ps.items) =
      linked_at (widths_of l.metrics.layout) l.metrics l.bodies.items body frame.next body.operations.items calls.0.items o calls.1.1 k in
      (at.0, at.1.1)

  ints : (o : Operation) → slice_get body.operations.items frame.next ≡ Some o → frame.function ≡ l.main → ReturnsInt o
  ints o k e =
      let same : loaded.main_is.body ≡ body =
      same_body loaded.main_is.body body (sym loaded.main_is.body_is ∙ ap (λ (i : ℕ). slice_get l.bodies.items i) (sym e) ∙ body_is) in
      int_at frame.next body.operations.items o (subst (λ (b : Body). AllReturnInts b.operations.items) same loaded.main_is.ints) k

  pub does_next : (o : Operation) → slice_get body.operations.items frame.next ≡ Some o → DoesNext l frame o
  does_next o k =
      let b : IsBody l.program (setting_in l) frame.function body = is_body in
      let found : (c : Command) × ((slice_get (code_of l.program (setting_in l) frame.function) frame.next ≡ Some c) × DoesCommand b.scope b.labels b.end body.arguments.items c o) =
      code_at b.scope b.labels b.end body.arguments.items frame.next (code_of l.program (setting_in l) frame.function) body.operations.items o b.code_is k in
      let within : frame.next < length body.operations.items = slice_get_within body.operations.items frame.next o k in
      record {
        body = body;
        body_is = body_is;
        stands = k;
        few = omega (arith, within, b.few);
        arguments = found.1.1.arguments;
        arguments_stand = found.1.1.arguments_stand;
        same = λ callers m. rw (found.1.0) (found.1.1.does.same l.program (setting_in l) frame.function b.scope_is b.labelled frame callers m refl);
        sound = (linked o k).1.sound;
        counts_are = counts_at frame.next (code_of l.program (setting_in l) frame.function) body.operations.items o b.counts_are k;
        ints = ints o k;
      }

  pub some_next : (o : Option Operation) → o ≡ slice_get body.operations.items frame.next → IfSome o (λ x. DoesNext l frame x)
  some_next None h = tt
  some_next (Some o) h = does_next o (sym h)

  pub none_next : (o : Option Operation) → o ≡ slice_get body.operations.items frame.next → IfNone o (slice_get (code_of l.program (setting_in l) frame.function) frame.next ≡ None)
  none_next None h = code_ends is_body.scope is_body.labels is_body.end body.arguments.items frame.next (code_of l.program (setting_in l) frame.function) body.operations.items is_body.code_is (sym h)
  none_next (Some o) h = tt
