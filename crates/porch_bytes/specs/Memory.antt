-- Where globals, the stack, its frames and the heap lie in memory, in bytes from address 0 on.
use Rattle.std.specs.Prelude.{ℕ, ◌+◌, ◌-◌, max, List, [], ◌∷◌, map, slice_get, slice_index}
use Rattle.porch_layout.specs.declared.layout.Layout.{Layout}
use Rattle.porch_metrics.specs.Extents.{Extent, extent_of, round_up}
use Rattle.porch_flat.specs.declared.flat.GlobalObject.{GlobalObject}
use Rattle.porch_flat.specs.declared.whole.Flat.{Flat}
use Rattle.porch_flat.specs.whole.Places.{vars_of}

-- the address of the first global; address 0 is null
abbrev pub FIRST_GLOBAL : ℕ
FIRST_GLOBAL = 16

-- the stack, each frame and the heap begin at multiples of so many bytes
abbrev pub UNIT : ℕ
UNIT = 16

-- where objects of these types begin: each at the lowest multiple of its alignment from a free place
-- on, with at least one byte between it and the one before
abbrev pub places_from : (ℕ → Extent) → (free : ℕ) → List ℕ → List ℕ
places_from extents free [] = []
places_from extents free (ty ∷ rest) =
    round_up free (extents ty).align
    ∷ places_from extents (round_up free (extents ty).align + (extents ty).size + 1) rest

-- where the next object after these may begin: one byte after the end of the last
abbrev pub free_after : (ℕ → Extent) → (free : ℕ) → List ℕ → ℕ
free_after extents free [] = free
free_after extents free (ty ∷ rest) =
    free_after extents (round_up free (extents ty).align + (extents ty).size + 1) rest

abbrev pub global_types : Flat → List ℕ
global_types flat = map (λ (g : GlobalObject). g.ty) flat.globals

module _ (under : Layout) (flat : Flat) where
  abbrev pub extent : ℕ → Extent
  extent ty = extent_of under flat.types ty

  -- where a global begins
  abbrev pub place_of_global : ℕ → ℕ
  place_of_global g = slice_index (places_from extent FIRST_GLOBAL (global_types flat)) g

  -- where the globals end
  abbrev pub globals_end : ℕ
  globals_end = max FIRST_GLOBAL (free_after extent FIRST_GLOBAL (global_types flat) - 1)

  -- where the stack begins, with at least one byte between it and the globals
  abbrev pub stack_begin : ℕ
  stack_begin = round_up (globals_end + 1) UNIT

  -- where the heap begins, for a stack of so many bytes
  abbrev pub heap_begin : ℕ → ℕ
  heap_begin stack = round_up (stack_begin + stack + UNIT) UNIT

  -- the types of a function's variables, the parameters first
  abbrev pub variables : (function : ℕ) → List ℕ
  variables function = vars_of (slice_get flat.functions function)

  -- where a variable begins in a frame of its function
  abbrev pub place_of_variable : (function v : ℕ) → ℕ
  place_of_variable function v = slice_index (places_from extent 0 (variables function)) v

  -- the size of a function's frame: a multiple of 16, and at least 16
  abbrev pub frame_size : (function : ℕ) → ℕ
  frame_size function = max UNIT (round_up (free_after extent 0 (variables function)) UNIT)
