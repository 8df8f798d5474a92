-- Where globals, the stack, its frames and the heap lie.
use Rattle.std.specs.Prelude.{ℕ, ◌+◌, max, List, [], ◌∷◌, map, slice_index, slice_get}
use Rattle.porch_layout.specs.declared.layout.Layout.{Layout}
use Rattle.porch_metrics.specs.Extents.{Extent, extent_of, round_up}
use Rattle.porch_flat.specs.declared.flat.Flat.{Flat}
use Rattle.porch_flat.specs.declared.flat.GlobalObject.{GlobalObject}
use Rattle.porch_flat.specs.Parts.{vars_of}

-- where objects of these types begin: each at the lowest multiple of its alignment from a free place on, with at least one
-- byte between it and the one before
abbrev pub places_from : (ℕ → Extent) → ℕ → List ℕ → List ℕ
places_from extents free [] = []
places_from extents free (ty ∷ rest) = round_up free (extents ty).align ∷ places_from extents (round_up free (extents ty).align + (extents ty).size + 1) rest

-- the first place behind them that another object may have
abbrev pub free_behind : (ℕ → Extent) → ℕ → List ℕ → ℕ
free_behind extents free [] = free
free_behind extents free (ty ∷ rest) = free_behind extents (round_up free (extents ty).align + (extents ty).size + 1) rest

-- the size of a frame with variables of these types, in bytes: a multiple of 16, and at least 16
abbrev pub frame_bytes : (ℕ → Extent) → List ℕ → ℕ
frame_bytes extents vars = max 16 (round_up (free_behind extents 0 vars) 16)

-- where a variable begins in its frame
abbrev pub place_of_var : (ℕ → Extent) → List ℕ → ℕ → ℕ
place_of_var extents vars v = slice_index (places_from extents 0 vars) v

abbrev pub global_types : Flat → List ℕ
global_types flat = map (λ (g : GlobalObject). g.ty) flat.globals

-- where a global begins; the first may begin at 16
abbrev pub place_of_global : Layout → Flat → ℕ → ℕ
place_of_global under flat g = slice_index (places_from (extent_of under flat.types) 16 (global_types flat)) g

-- where the stack begins: at a multiple of 16, with a byte between it and the globals
abbrev pub behind_globals : (ℕ → Extent) → List ℕ → ℕ
behind_globals extents [] = 17
behind_globals extents (ty ∷ rest) = free_behind extents 16 (ty ∷ rest)

abbrev pub stack_begin : Layout → Flat → ℕ
stack_begin under flat = round_up (behind_globals (extent_of under flat.types) (global_types flat)) 16

-- where the heap begins, for a stack of so many bytes
abbrev pub heap_begin : Layout → Flat → ℕ → ℕ
heap_begin under flat stack = round_up (stack_begin under flat + stack + 16) 16

-- the size of the frame of a function
abbrev pub frame_size : Layout → Flat → ℕ → ℕ
frame_size under flat function = frame_bytes (extent_of under flat.types) (vars_of (slice_get flat.functions function))
