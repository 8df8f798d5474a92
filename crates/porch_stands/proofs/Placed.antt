-- Each object that lives has its place.
use Rattle.std.proofs.Common.{◌≡◌, ◌<◌, ◌≤◌, inl, inr, ℕ, zero, suc, ◌+◌, ◌*◌, ◌%◌, List, [], ◌∷◌, length, map, refl, sym, ap, subst, ◌∙◌, arith, Option, Some, None}
use Rattle.std.specs.Prelude.{slice_get}
use Rattle.std.specs.Option.{option_map}
use Rattle.std.proofs.lemmas.Bool.Decides.{eqb_tells}
use Rattle.std.proofs.lemmas.Option.{slice_get-map, slice_get_within, same_Some}
use Rattle.std.proofs.lemmas.List.{length-map}
use Rattle.porch_layout.specs.Layouts.{IsAlignment}
use Rattle.porch_values.specs.declared.widths.Widths.{Widths}
use Rattle.porch_objects.specs.Store.{Home, of_global, of_call, of_block, Root, one_of, Object, Activation, HeapObject, variables_in, block_in, object_at}
use Rattle.porch_heap.specs.declared.block.Block.{Block}
use Rattle.porch_heap.specs.Blocks.{Each, Stand}
use Rattle.porch_flat.specs.declared.flat.GlobalObject.{GlobalObject}
use Rattle.porch_flat.specs.declared.whole.Flat.{Flat}
use Rattle.porch_abstract.specs.Machine as abstract
use Rattle.porch_bytes.specs.Memory.{global_types, place_of_global, globals_end, stack_begin, variables, place_of_variable}
use Rattle.porch_bytes.specs.State.{Setting, Frame, Phase, before, running, over, State, frames_of, memory_end}
use Rattle.porch_bytes.specs.Column.{size_of, align_of, stack_end, heap_at}
use Rattle.porch_bytes.specs.Fits.{IsFrame, AreFrames, IsBlock}
use Rattle.porch_bytes.specs.StandsFor.{IsFrameOf, AreFramesOf, IsPhaseOf, HasAllocation, root_in}
use Rattle.porch_stands.specs.Follows.{IsStoodFor}
use Rattle.porch_stands.specs.Placed.{HasTypes, in_globals, in_stack, in_heap, IsPlaced}
use Rattle.porch_stands.specs.inside.Measured.{AreMeasured}
use Rattle.porch_stands.proofs.Parts.{global_room, variable_room, stack_whole, globals_low, stack_low, power}

-- the root of an object of a list whose roots are single elements of these types
root_at : (objects : List Object) (tys : List ℕ) (i : ℕ) (o : Object) → map root_in objects ≡ map one_of tys → slice_get objects i ≡ Some o
    → (ty : ℕ) × (slice_get tys i ≡ Some ty) × (o.root ≡ one_of ty)
root_at objects tys i o same e = by_type (slice_get tys i) refl
  where
    roots : option_map one_of (slice_get tys i) ≡ Some o.root
    roots = sym (slice_get-map one_of tys i) ∙ ap (λ (rs : List Root). slice_get rs i) (sym same) ∙ slice_get-map root_in objects i ∙ ap (option_map root_in) e

    by_type : (x : Option ℕ) → slice_get tys i ≡ x → (ty : ℕ) × (slice_get tys i ≡ Some ty) × (o.root ≡ one_of ty)
    by_type None g = absurd (let k = sym (ap (option_map one_of) g) ∙ roots in cc)
    by_type (Some ty) g = (ty, g, same_Some o.root (one_of ty) (sym roots ∙ ap (option_map one_of) g))

-- multiples of 16 are multiples of each alignment
aligned_at : (base place align : ℕ) → IsAlignment align → base % 16 ≡ 0 → place % align ≡ 0 → (base + place) % align ≡ 0
aligned_at base place align (inl e) whole h = subst (λ (n : ℕ). (base + place) % n ≡ 0) (sym e) (omega arith)
aligned_at base place align (inr (inl e)) whole h =
    let k : place % 2 ≡ 0 = subst (λ (n : ℕ). place % n ≡ 0) e h in
    subst (λ (n : ℕ). (base + place) % n ≡ 0) (sym e) (omega (arith, k, whole))
aligned_at base place align (inr (inr (inl e))) whole h =
    let k : place % 4 ≡ 0 = subst (λ (n : ℕ). place % n ≡ 0) e h in
    subst (λ (n : ℕ). (base + place) % n ≡ 0) (sym e) (omega (arith, k, whole))
aligned_at base place align (inr (inr (inr e))) whole h =
    let k : place % 8 ≡ 0 = subst (λ (n : ℕ). place % n ≡ 0) e h in
    subst (λ (n : ℕ). (base + place) % n ≡ 0) (sym e) (omega (arith, k, whole))

later_frames : (flat : Flat) (on : Setting) (f : Frame) (fs : List Frame) → AreFrames flat on (f ∷ fs) → IsFrame flat on f fs × AreFrames flat on fs
later_frames flat on f [] h = (h.0, tt)
later_frames flat on f (caller ∷ callers) h = (h.0, h.2)

each_at : (P : Block → Type 0) (blocks : List Block) (i : ℕ) (b : Block) → Each P blocks → slice_get blocks i ≡ Some b → P b
each_at P [] i b h e = absurd (let k = e in cc)
each_at P (x ∷ blocks) zero b h e = subst P (same_Some x b e) h.0
each_at P (x ∷ blocks) (suc i) b h e = each_at P blocks i b h.1 e

stands_first : (from end : ℕ) (blocks : List Block) → Stand from end blocks → from ≤ end
stands_first from end [] h = h
stands_first from end (b ∷ blocks) h = (let first = h.0 in let k = stands_first (b.at + b.bytes + 1) end blocks h.1 in omega (arith, first, k))

stands_within : (from end : ℕ) (blocks : List Block) (i : ℕ) (b : Block) → Stand from end blocks → slice_get blocks i ≡ Some b → (from ≤ b.at) × (b.at + b.bytes + 1 ≤ end)
stands_within from end [] i b h e = absurd (let k = e in cc)
stands_within from end (x ∷ blocks) zero b h e =
    subst (λ (y : Block). (from ≤ y.at) × (y.at + y.bytes + 1 ≤ end)) (same_Some x b e) (h.0, stands_first (x.at + x.bytes + 1) end blocks h.1)
stands_within from end (x ∷ blocks) (suc i) b h e =
    (let first = h.0 in let k = stands_within (x.at + x.bytes + 1) end blocks i b h.1 e in (let low = k.0 in omega (arith, first, low), k.1))

-- the allocation of an object
allocation_of : (hs : List HeapObject) (block : ℕ) (o : Object) → block_in hs block ≡ Some o → (h : HeapObject) × HasAllocation hs h × (h.number ≡ block) × (h.object ≡ o)
allocation_of [] block o e = absurd (let k = e in cc)
allocation_of (x ∷ hs) block o e =
    elim (eqb_tells x.number block) [
      | inl t ↦ (let k : Some x.object ≡ Some o = rw t.0 at e in (x, (0, refl), t.1, same_Some x.object o k))
      | inr t ↦ (let k : block_in hs block ≡ Some o = rw t.0 at e in let rest = allocation_of hs block o k in (rest.0, (suc rest.1.0, rest.1.1), rest.2, rest.3))
    ]

module _ (flat : Flat) (on : Setting) (known : HasTypes flat) (measured : AreMeasured on.layout flat.types) (address : Home → ℕ) where
  -- an object of one element lies between two addresses, aligned
  pub record LiesBetween (from end at : ℕ) (o : Object) : Type 0 where
    pub of_type : o.root.ty < length flat.types
    pub low : from ≤ at
    pub high : at + o.root.count * size_of flat on o.root.ty ≤ end
    pub aligned : at % align_of flat on o.root.ty ≡ 0

  single : (from end at ty : ℕ) (o : Object) → o.root ≡ one_of ty → ty < length flat.types → from ≤ at → at + size_of flat on ty ≤ end → at % align_of flat on ty ≡ 0
      → LiesBetween from end at o
  single from end at ty o e k low high aligned = record {
    of_type = subst (λ (r : Root). r.ty < length flat.types) (sym e) k;
    low = low;
    high = subst (λ (r : Root). at + r.count * size_of flat on r.ty ≤ end) (sym e) (omega (arith, high));
    aligned = subst (λ (r : Root). at % align_of flat on r.ty ≡ 0) (sym e) aligned;
  }

  wider : (from end more at : ℕ) (o : Object) → end ≤ more → LiesBetween from end at o → LiesBetween from more at o
  wider from end more at o e h = record { of_type = h.of_type; low = h.low; high = (let high = h.high in omega (arith, high, e)); aligned = h.aligned }

  variable_lies : (f : Frame) (fs : List Frame) (g : abstract.Frame) (call : Activation) (v : ℕ) (o : Object) → IsFrame flat on f fs → IsFrameOf flat on address f g call
      → slice_get call.variables v ≡ Some o → LiesBetween (stack_begin on.layout flat) (stack_end flat on (f ∷ fs)) (address (of_call call.number v)) o
  variable_lies f fs g call v o fits of e =
      let root = root_at call.variables (variables on.layout flat f.function) v o of.roots_are e in
      let ty = root.0 in
      let room = variable_room flat on known measured f.function v ty root.1 in
      let low = room.low in
      let high = room.high in
      let at = fits.at_is in
      let place : address (of_call call.number v) ≡ stack_end flat on fs + place_of_variable on.layout flat f.function v =
      of.places_are v (slice_get_within call.variables v o e) ∙ ap (λ (n : ℕ). n + place_of_variable on.layout flat f.function v) at in
      subst (λ (n : ℕ). LiesBetween (stack_begin on.layout flat) (stack_end flat on (f ∷ fs)) n o) (sym place)
      (single (stack_begin on.layout flat) (stack_end flat on (f ∷ fs)) (stack_end flat on fs + place_of_variable on.layout flat f.function v) ty o root.2
      (known.variables_known on f.function v ty root.1) (omega arith) (omega (arith, high))
      (aligned_at (stack_end flat on fs) (place_of_variable on.layout flat f.function v) (align_of flat on ty) (power flat on known measured ty (known.variables_known on f.function v ty root.1))
      (stack_whole flat on known measured fs) room.aligned))

  call_lies : (fs : List Frame) (gs : List abstract.Frame) (calls : List Activation) (c v : ℕ) (o : Object) → AreFrames flat on fs → AreFramesOf flat on address fs gs calls
      → slice_get (variables_in calls c) v ≡ Some o → LiesBetween (stack_begin on.layout flat) (stack_end flat on fs) (address (of_call c v)) o
  call_lies [] [] [] c v o fits of e = absurd (let k = e in cc)
  call_lies [] [] (call ∷ calls) c v o fits of e = absurd of
  call_lies [] (g ∷ gs) calls c v o fits of e = absurd of
  call_lies (f ∷ fs) [] calls c v o fits of e = absurd of
  call_lies (f ∷ fs) (g ∷ gs) [] c v o fits of e = absurd of
  call_lies (f ∷ fs) (g ∷ gs) (call ∷ calls) c v o fits of e =
      let parts = later_frames flat on f fs fits in
      elim (eqb_tells call.number c) [
        | inl t ↦
            (let k : slice_get call.variables v ≡ Some o = rw t.0 at e in
            subst (λ (n : ℕ). LiesBetween (stack_begin on.layout flat) (stack_end flat on (f ∷ fs)) (address (of_call n v)) o) t.1 (variable_lies f fs g call v o parts.0 of.0 k))
        | inr t ↦
            (let k : slice_get (variables_in calls c) v ≡ Some o = rw t.0 at e in
            wider (stack_begin on.layout flat) (stack_end flat on fs) (stack_end flat on (f ∷ fs)) (address (of_call c v)) o (omega arith) (call_lies fs gs calls c v o parts.1 of.1 k))
      ]

  phase_lies : (p : Phase) (q : abstract.Phase) (calls : List Activation) (c v : ℕ) (o : Object) → AreFrames flat on (frames_of p) → IsPhaseOf flat on address p q calls
      → slice_get (variables_in calls c) v ≡ Some o → LiesBetween (stack_begin on.layout flat) (stack_end flat on (frames_of p)) (address (of_call c v)) o
  phase_lies before abstract.before calls c v o fits of e = call_lies [] [] calls c v o fits of e
  phase_lies before (abstract.running g gs) calls c v o fits of e = absurd of
  phase_lies before abstract.over calls c v o fits of e = absurd of
  phase_lies (running f fs) abstract.before calls c v o fits of e = absurd of
  phase_lies (running f fs) (abstract.running g gs) calls c v o fits of e = call_lies (f ∷ fs) (g ∷ gs) calls c v o fits of e
  phase_lies (running f fs) abstract.over calls c v o fits of e = absurd of
  phase_lies over q calls c v o fits of e = absurd of

module _ (flat : Flat) (on : Setting) (w : Widths) (m : State) (s : abstract.State) (known : HasTypes flat) (measured : AreMeasured on.layout flat.types) (h : IsStoodFor flat on w m s) where
  abbrev the_address : Home → ℕ
  the_address = h.stands.address

  stack_before_end : stack_end flat on (frames_of m.phase) ≤ memory_end flat on
  stack_before_end = (let a = stack_low flat on known measured (frames_of m.phase) h.fits.frames_are in omega (arith, a))

  global_placed : (g : ℕ) (o : Object) → slice_get s.store.globals g ≡ Some o → IsPlaced flat on m (the_address (of_global g)) o
  global_placed g o e =
      let root = root_at s.store.globals (global_types flat) g o h.stands.globals_are e in
      let ty = root.0 in
      let room = global_room flat on known measured g ty root.1 in
      let few : g < length flat.globals =
      (let k = slice_get_within (global_types flat) g ty root.1 in let n : length (global_types flat) ≡ length flat.globals = length-map flat.globals (λ (x : GlobalObject). x.ty) in omega (arith, k, n)) in
      let high = room.high in
      let lies : LiesBetween flat on known measured the_address 16 (globals_end on.layout flat) (place_of_global on.layout flat g) o =
      single flat on known measured the_address 16 (globals_end on.layout flat) (place_of_global on.layout flat g) ty o root.2 (known.globals_known g ty root.1) room.low (omega (arith, high)) room.aligned in
      let top = lies.high in
      let a = globals_low flat on known measured in
      let b = stack_before_end in
      let long = h.fits.memory_is in
      subst (λ (n : ℕ). IsPlaced flat on m n o) (sym (h.stands.global_places g few))
      (record { known = lies.of_type; lies = in_globals lies.low lies.high; inside = omega (arith, top, a, b, long); aligned = lies.aligned })

  variable_placed : (c v : ℕ) (o : Object) → slice_get (variables_in s.store.calls c) v ≡ Some o → IsPlaced flat on m (the_address (of_call c v)) o
  variable_placed c v o e =
      let lies = phase_lies flat on known measured the_address m.phase s.phase s.store.calls c v o h.fits.frames_are h.stands.frames_are e in
      let top = lies.high in
      let b = stack_before_end in
      let long = h.fits.memory_is in
      record { known = lies.of_type; lies = in_stack lies.low lies.high; inside = omega (arith, top, b, long); aligned = lies.aligned }

  block_placed : (b : ℕ) (o : Object) → block_in s.store.blocks b ≡ Some o → IsPlaced flat on m (the_address (of_block b)) o
  block_placed b o e =
      let a = allocation_of s.store.blocks b o e in
      let live = h.stands.blocks_have a.0 a.1 in
      let block = live.0 in
      let of = live.2 in
      let ty : block.ty ≡ o.root.ty = of.type_is ∙ ap (λ (x : Object). x.root.ty) a.3 in
      let count : block.count ≡ o.root.count = of.count_is ∙ ap (λ (x : Object). x.root.count) a.3 in
      let at : block.at ≡ the_address (of_block b) = of.place_is ∙ ap (λ (n : ℕ). the_address (of_block n)) a.2 in
      let is = each_at (λ (x : Block). IsBlock flat on x) m.blocks live.1.0 block h.fits.blocks_are live.1.1 in
      let within = stands_within (heap_at flat on) (heap_at flat on + on.heap) m.blocks live.1.0 block h.fits.heap_is.stand live.1.1 in
      let size : block.bytes ≡ o.root.count * size_of flat on o.root.ty =
      is.bytes_are ∙ ap (λ (n : ℕ). n * size_of flat on block.ty) count ∙ ap (λ (t : ℕ). o.root.count * size_of flat on t) ty in
      let low = within.0 in
      let high = within.1 in
      let long = h.fits.memory_is in
      subst (λ (n : ℕ). IsPlaced flat on m n o) at
      (record {
        known = subst (λ (t : ℕ). t < length flat.types) ty is.type_within;
        lies = in_heap within.0 (omega (arith, high, size));
        inside = omega (arith, high, size, long);
        aligned = subst (λ (t : ℕ). block.at % align_of flat on t ≡ 0) ty is.aligned;
      })

  pub placed : (home : Home) (o : Object) → object_at s.store home ≡ Some o → IsPlaced flat on m (the_address home) o
  placed (of_global g) o e = global_placed g o e
  placed (of_call c v) o e = variable_placed c v o e
  placed (of_block b) o e = block_placed b o e
