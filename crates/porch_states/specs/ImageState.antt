-- The state that a checkpoint stands for: an object for each global, for each variable of each frame and for
-- each heap block, with the values that the data has, and each frame at the place behind its call.
use Rattle.std.specs.Prelude.{◌≡◌, ℕ, ◌+◌, ◌*◌, ℤ, pos, List, [], ◌∷◌, ◌++◌, length, map, drop, reverse, position, slice_get, unwrap_or, if◌then◌else◌, Option, Some, None}
use Rattle.std.specs.List.{range_with_len}
use Rattle.byteorder.specs.Endian.{big_number}
use Rattle.porch_types.specs.declared.shapes.Kind.{Kind}
use Rattle.porch_types.specs.declared.shapes.Ty.{Ty}
use Rattle.porch_types.specs.declared.shapes.Ty.TheVariants.{Whole, Pointer}
use Rattle.porch_types.specs.LeafTypes.{leaf_type}
use Rattle.porch_values.specs.Integers.{is_signed, signed_bits}
use Rattle.porch_metrics.specs.Extents.{extent_of, ucf_layout}
use Rattle.porch_find.specs.declared.roots.Root.{Root}
use Rattle.porch_find.specs.declared.spot.Spot.{Spot}
use Rattle.porch_points.specs.Plans.{dead_word}
use Rattle.porch_points.specs.Displacements.{NamesSpotOf}
use Rattle.porch_objects.specs.Store as store
use Rattle.porch_objects.specs.Store.{Home, of_global, of_call, of_block, Value, number, null, pointer, past, indeterminate, Object, Activation, HeapObject, object_at}
use Rattle.porch_flat.specs.declared.whole.Flat.{Flat}
use Rattle.porch_flat.specs.whole.Form as form
use Rattle.porch_flat.specs.whole.Form.{Form, form_of}
use Rattle.porch_flat.specs.whole.Places.{is_number, commands_of, vars_of}
use Rattle.porch_abstract.specs.Machine.{Frame, Phase, before, running, State}
use Rattle.porch_ucf.specs.declared.image.FrameRow.{FrameRow}
use Rattle.porch_ucf.specs.DataFlaws.{leaf_count, leaf_place, type_of_leaf}
use Rattle.porch_ucf.specs.Fields.{u64_in}
use Rattle.porch_ucf.specs.FirstFlaw.{roots_of}
use Rattle.porch_ucf.specs.Images.{Checkpoint}
use Rattle.porch_ucf.specs.RowFlaws.{call_of, kept_number}

-- where a frame goes on: at the SAVED that stands behind its call
abbrev pub place_behind_call : Flat → FrameRow → ℕ
place_behind_call program row =
    unwrap_or
    (position (λ command. is_number row.call (kept_number (form_of command)))
    (commands_of (slice_get program.functions row.function)))
    0

-- the variable that the value of a call goes to
abbrev pub target_of : Option Form → Option ℕ
target_of (Some (form.call target function arguments)) = target
target_of other = None

-- the frames in the order of the checkpoint; the value of the first goes to this variable
abbrev pub frames_in : Flat → (into : Option ℕ) → List FrameRow → List Frame
frames_in program into [] = []
frames_in program into (row ∷ rows) =
    record { function = row.function; next = place_behind_call program row; into = into }
    ∷ frames_in program (target_of (call_of program row.function row.call)) rows

-- a run in these frames, from the innermost on
abbrev pub phase_in : List Frame → Phase
phase_in [] = before
phase_in (frame ∷ callers) = running frame callers

-- how many variables a frame has
abbrev pub variables_of : Flat → FrameRow → ℕ
variables_of program row = length (vars_of (slice_get program.functions row.function))

-- the names of the variables of frames, whose calls are numbered from this one on
abbrev pub variable_homes : Flat → (call : ℕ) → List FrameRow → List Home
variable_homes program call [] = []
variable_homes program call (row ∷ rows) =
    map (of_call call) (range_with_len 0 (variables_of program row))
    ++ variable_homes program (call + 1) rows

-- the names of the objects, in the order of the data
abbrev pub homes_of : Flat → Checkpoint → List Home
homes_of program c =
    map of_global (range_with_len 0 (length program.globals))
    ++ (variable_homes program 0 c.frames ++ map of_block (range_with_len 0 (length c.blocks)))

-- what a pointer to a spot of an object is; a checkpoint has no end that is shared
abbrev pub spot_value : Home → Spot → Value
spot_value home spot = if spot.past then past home spot.leaf None else pointer home spot.leaf

-- the number in so many bytes at a place
abbrev pub number_in : List ℕ → Kind → (place size : ℕ) → ℤ
number_in bytes kind place size =
    if is_signed kind then signed_bits (8 * size) (pos (big_number size (drop place bytes)))
    else pos (big_number size (drop place bytes))

module _ (program : Flat) (c : Checkpoint) where
  -- what a pointer is that has this word
  pub data IsPointer (pointee : ℕ) : (word : ℕ) → Value → Type 0 where
    to_null : IsPointer pointee 0 null
    to_nothing : IsPointer pointee dead_word indeterminate
    to_spot : {word : ℕ} (names : NamesSpotOf program.types (roots_of program c) pointee word)
        (home : Home) → slice_get (homes_of program c) names.number ≡ Some home
        → IsPointer pointee word (spot_value home names.spot)

  -- what a leaf of a type is that stands at a place of the data
  abbrev pub IsLeaf : Option Ty → (place size : ℕ) → Value → Type 0
  IsLeaf (Some (Whole kind)) place size v = v ≡ number (number_in c.bytes kind place size)
  IsLeaf (Some (Pointer to)) place size v = IsPointer to (u64_in c.bytes place) v
  IsLeaf other place size v = ⊥

  -- an object has the values of the data
  pub record HasData (root : Root) (object : Object) : Type 0 where
    pub root_is : object.root ≡ record { ty = root.ty; count = root.count }
    pub count_is : length object.leaves ≡ leaf_count program.types root
    pub leaves_are : (leaf : ℕ) (v : Value) → slice_get object.leaves leaf ≡ Some v
        → IsLeaf (type_of_leaf program.types root leaf) (leaf_place program.types root leaf)
        (extent_of ucf_layout program.types (leaf_type program.types root.ty leaf)).size v

  -- The state of the checkpoint with this output. Calls are numbered from main on, allocations in the order of
  -- the blocks, each from 0.
  pub record IsStateOf (output : List ℕ) (s : State) : Type 0 where
    pub turns_are : s.turns ≡ c.header.turns
    pub output_is : s.output ≡ output
    pub length_is : length output ≡ c.header.output
    pub frames_are : s.phase ≡ phase_in (reverse (frames_in program None c.frames))
    pub globals_are : length s.store.globals ≡ length program.globals
    pub calls_are : map (λ (a : Activation). a.number) (reverse s.store.calls)
        ≡ range_with_len 0 (length c.frames)
    pub variables_are : map (λ (a : Activation). length a.variables) (reverse s.store.calls)
        ≡ map (variables_of program) c.frames
    pub blocks_are : map (λ (h : HeapObject). h.number) s.store.blocks
        ≡ range_with_len 0 (length c.blocks)
    pub called_are : s.store.called ≡ length c.frames
    pub allocated_are : s.store.allocated ≡ length c.blocks
    pub objects_are : (i : ℕ) (root : Root) (home : Home)
        → slice_get (roots_of program c) i ≡ Some root
        → slice_get (homes_of program c) i ≡ Some home
        → (object : Object) × (object_at s.store home ≡ Some object) × HasData root object
