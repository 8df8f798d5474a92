-- Where globals and variables lie in their parts of memory, and how the parts follow one another.
use Rattle.std.proofs.Common.{◌≡◌, ◌<◌, ◌≤◌, ◌⊎◌, inl, inr, ℕ, zero, suc, ◌+◌, ◌-◌, ◌%◌, max, List, [], ◌∷◌, length, refl, ap, subst, ◌∙◌, arith, Some}
use Rattle.std.specs.Prelude.{slice_get, slice_index}
use Rattle.std.proofs.Math.Nat.{le-max_left, le-max_right}
use Rattle.std.proofs.lemmas.Bool.{cases_lt}
use Rattle.std.proofs.Math.Nat.{max-eq_left, max-eq_right}
use Rattle.porch_layout.specs.Layouts.{IsAlignment}
use Rattle.porch_metrics.specs.Extents.{Extent, extent_of, round_up}
use Rattle.porch_flat.specs.declared.whole.Flat.{Flat}
use Rattle.porch_bytes.specs.Memory.{UNIT, FIRST_GLOBAL, places_from, free_after, extent, global_types, globals_end, stack_begin, variables, place_of_variable, frame_size}
use Rattle.porch_bytes.specs.State.{Setting, Frame}
use Rattle.porch_bytes.specs.Column.{used, stack_end, heap_at}
use Rattle.porch_bytes.specs.Fits.{AreFrames}
use Rattle.porch_stands.specs.Placed.{HasTypes}
use Rattle.porch_stands.specs.inside.Measured.{AreMeasured}

-- an object of one of these types has a place at or after the free one, and ends with one byte more before the next
pub record HasRoom (extents : ℕ → Extent) (free end ty place : ℕ) : Type 0 where
  pub low : free ≤ place
  pub high : place + (extents ty).size + 1 ≤ end
  pub aligned : place % (extents ty).align ≡ 0

positive : (align : ℕ) → IsAlignment align → 0 < align
positive align (inl e) = omega (arith, e)
positive align (inr (inl e)) = omega (arith, e)
positive align (inr (inr (inl e))) = omega (arith, e)
positive align (inr (inr (inr e))) = omega (arith, e)

module _ (extents : ℕ → Extent) (multiple : (place align : ℕ) → 0 < align → round_up place align % align ≡ 0) (after : (place align : ℕ) → 0 < align → place ≤ round_up place align) where
  free_rises : (free : ℕ) (tys : List ℕ) → ((i ty : ℕ) → slice_get tys i ≡ Some ty → IsAlignment (extents ty).align) → free ≤ free_after extents free tys
  free_rises free [] powers = omega arith
  free_rises free (ty ∷ tys) powers =
      let up = after free (extents ty).align (positive (extents ty).align (powers 0 ty refl)) in
      let rest = free_rises (round_up free (extents ty).align + (extents ty).size + 1) tys (λ i t e. powers (suc i) t e) in
      omega (arith, up, rest)

  has_room : (free : ℕ) (tys : List ℕ) (i ty : ℕ) → ((i ty : ℕ) → slice_get tys i ≡ Some ty → IsAlignment (extents ty).align) → slice_get tys i ≡ Some ty
      → HasRoom extents free (free_after extents free tys) ty (slice_index (places_from extents free tys) i)
  has_room free [] i ty powers e = absurd (let k = e in cc)
  has_room free (t ∷ tys) zero ty powers e =
      let same : t ≡ ty = cc in
      let some = positive (extents t).align (powers 0 t refl) in
      let up = after free (extents t).align some in
      let rest = free_rises (round_up free (extents t).align + (extents t).size + 1) tys (λ i t e. powers (suc i) t e) in
      subst (λ (x : ℕ). HasRoom extents free (free_after extents (round_up free (extents t).align + (extents t).size + 1) tys) x (round_up free (extents t).align)) same
      (record { low = up; high = rest; aligned = multiple free (extents t).align some })
  has_room free (t ∷ tys) (suc i) ty powers e =
      let up = after free (extents t).align (positive (extents t).align (powers 0 t refl)) in
      let rest = has_room (round_up free (extents t).align + (extents t).size + 1) tys i ty (λ i t e. powers (suc i) t e) e in
      record { low = (let low = rest.low in omega (arith, up, low)); high = rest.high; aligned = rest.aligned }

max_is : (a b : ℕ) → (max a b ≡ a) ⊎ (max a b ≡ b)
max_is a b =
    elim (cases_lt a b) [
      | inl l ↦ inr (max-eq_right (omega (arith, l)))
      | inr l ↦ inl (max-eq_left l)
    ]

module _ (flat : Flat) (on : Setting) (known : HasTypes flat) (measured : AreMeasured on.layout flat.types) where
  -- alignments of globals and of variables
  pub power : (ty : ℕ) → ty < length flat.types → IsAlignment (extent_of on.layout flat.types ty).align
  power ty k = (measured.bounded ty k).align

  some_unit : 0 < UNIT
  some_unit = omega arith

  global_powers : (i ty : ℕ) → slice_get (global_types flat) i ≡ Some ty → IsAlignment (extent on.layout flat ty).align
  global_powers i ty e = power ty (known.globals_known i ty e)

  variable_powers : (function i ty : ℕ) → slice_get (variables on.layout flat function) i ≡ Some ty → IsAlignment (extent on.layout flat ty).align
  variable_powers function i ty e = power ty (known.variables_known on function i ty e)

  pub global_room : (g ty : ℕ) → slice_get (global_types flat) g ≡ Some ty
      → HasRoom (extent on.layout flat) FIRST_GLOBAL (globals_end on.layout flat + 1) ty (slice_index (places_from (extent on.layout flat) FIRST_GLOBAL (global_types flat)) g)
  global_room g ty e =
      let room = has_room (extent on.layout flat) measured.multiple measured.after FIRST_GLOBAL (global_types flat) g ty global_powers e in
      let end = le-max_right FIRST_GLOBAL (free_after (extent on.layout flat) FIRST_GLOBAL (global_types flat) - 1) in
      record { low = room.low; high = (let high = room.high in omega (arith, high, end)); aligned = room.aligned }

  pub variable_room : (function v ty : ℕ) → slice_get (variables on.layout flat function) v ≡ Some ty
      → HasRoom (extent on.layout flat) 0 (frame_size on.layout flat function) ty (place_of_variable on.layout flat function v)
  variable_room function v ty e =
      let room = has_room (extent on.layout flat) measured.multiple measured.after 0 (variables on.layout flat function) v ty (variable_powers function) e in
      let up = measured.after (free_after (extent on.layout flat) 0 (variables on.layout flat function)) UNIT some_unit in
      let end = le-max_right UNIT (round_up (free_after (extent on.layout flat) 0 (variables on.layout flat function)) UNIT) in
      record { low = room.low; high = (let high = room.high in omega (arith, high, up, end)); aligned = room.aligned }

  frame_whole : (function : ℕ) → frame_size on.layout flat function % 16 ≡ 0
  frame_whole function =
      let end = round_up (free_after (extent on.layout flat) 0 (variables on.layout flat function)) UNIT in
      let whole = measured.multiple (free_after (extent on.layout flat) 0 (variables on.layout flat function)) UNIT some_unit in
      elim (max_is UNIT end) [
        | inl e ↦ ap (λ (n : ℕ). n % 16) e
        | inr e ↦ ap (λ (n : ℕ). n % 16) e ∙ whole
      ]

  used_whole : (frames : List Frame) → used flat on frames % 16 ≡ 0
  used_whole [] = refl
  used_whole (f ∷ fs) = (let a = frame_whole f.function in let b = used_whole fs in omega (arith, a, b))

  pub stack_whole : (frames : List Frame) → stack_end flat on frames % 16 ≡ 0
  stack_whole frames =
      let a = measured.multiple (globals_end on.layout flat + 1) UNIT some_unit in
      let b = used_whole frames in
      omega (arith, a, b)

  pub globals_low : globals_end on.layout flat + 1 ≤ stack_begin on.layout flat
  globals_low = measured.after (globals_end on.layout flat + 1) UNIT some_unit

  pub globals_first : FIRST_GLOBAL ≤ globals_end on.layout flat
  globals_first = le-max_left FIRST_GLOBAL (free_after (extent on.layout flat) FIRST_GLOBAL (global_types flat) - 1)

  pub heap_high : stack_begin on.layout flat + on.stack + 16 ≤ heap_at flat on
  heap_high = measured.after (stack_begin on.layout flat + on.stack + UNIT) UNIT some_unit

  pub frames_few : (frames : List Frame) → AreFrames flat on frames → used flat on frames ≤ on.stack
  frames_few [] h = omega arith
  frames_few (f ∷ []) h = h.0.fits
  frames_few (f ∷ caller ∷ callers) h = h.0.fits

  pub stack_low : (frames : List Frame) → AreFrames flat on frames → stack_end flat on frames + 16 ≤ heap_at flat on
  stack_low frames h = (let a = frames_few frames h in let b = heap_high in omega (arith, a, b))
