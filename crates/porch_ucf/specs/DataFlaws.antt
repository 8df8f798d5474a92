-- What is wrong with the data of a checkpoint, leaf by leaf.
use Rattle.std.specs.Prelude.{◌≡◌, ℕ, ◌+◌, ◌*◌, ◌<◌, ◌≤◌, ◌⊎◌, ℤ, pos, Bool, true, false, List, length, slice_get, Option, Some, if◌then◌else◌}
use Rattle.porch_types.specs.declared.shapes.Kind.{Kind}
use Rattle.porch_types.specs.declared.shapes.Kind.TheVariants.{Long, ULong}
use Rattle.porch_types.specs.declared.shapes.Ty.{Ty}
use Rattle.porch_types.specs.declared.shapes.Ty.TheVariants.{Whole, Pointer}
use Rattle.porch_types.specs.Leaves.{leaves_of}
use Rattle.porch_types.specs.LeafTypes.{leaf_type}
use Rattle.porch_values.specs.Integers.{is_signed, signed_bits, in_range}
use Rattle.porch_metrics.specs.Extents.{ucf_layout}
use Rattle.porch_metrics.specs.Places.{place_of}
use Rattle.porch_find.specs.declared.roots.Root.{Root}
use Rattle.porch_points.specs.Displacements.{IsDisplacement}
use Rattle.porch_ucf.specs.declared.fault.Reason.TheVariants.{Word}
use Rattle.porch_ucf.specs.declared.fault.ImageFault.{ImageFault}
use Rattle.porch_ucf.specs.declared.fault.ImageFault.TheVariants.{Damaged, TooNarrow}
use Rattle.porch_ucf.specs.declared.leaves.Sought.{Sought}
use Rattle.porch_ucf.specs.declared.leaves.Sought.TheVariants.{Words, Values}
use Rattle.porch_ucf.specs.Fields.{u64_in}
use Rattle.porch_ucf.specs.Images.{Checkpoint}
use Rattle.porch_ucf.specs.Reading.{row_place}

-- how many leaves an object has
abbrev pub leaf_count : List Ty → Root → ℕ
leaf_count types object = object.count * leaves_of types object.ty

-- where a leaf's value stands in the data
abbrev pub leaf_place : List Ty → Root → (leaf : ℕ) → ℕ
leaf_place types object leaf = object.at + place_of ucf_layout types object.ty leaf

-- an integer or a pointer
abbrev pub type_of_leaf : List Ty → Root → (leaf : ℕ) → Option Ty
type_of_leaf types object leaf = slice_get types (leaf_type types object.ty leaf)

-- the eight bytes of a pointer or a long, as a number
abbrev pub word_of_leaf : List Ty → List ℕ → Root → (leaf : ℕ) → ℕ
word_of_leaf types bytes object leaf = u64_in bytes (leaf_place types object leaf)

-- where a leaf's value stands in the file: behind the header, the rows and the data before it
abbrev pub file_place : List Ty → Checkpoint → Root → (leaf : ℕ) → ℕ
file_place types c object leaf =
    row_place (length c.frames + length c.blocks) + leaf_place types object leaf

-- a pointer whose word names nothing
pub record IsBadWord (types : List Ty) (objects : List Root) (c : Checkpoint) (object : Root)
    (leaf : ℕ) (fault : ImageFault) : Type 0 where
  pub pointee : ℕ
  pub is_pointer : type_of_leaf types object leaf ≡ Some (Pointer pointee)
  pub names_nothing : ¬ IsDisplacement types objects pointee (word_of_leaf types c.bytes object leaf)
  pub fault_is : fault ≡ Damaged (file_place types c object leaf) Word

abbrev pub is_long : Kind → Bool
is_long Long = true
is_long ULong = true
is_long kind = false

-- what eight bytes say: in two's complement where the kind is signed
abbrev pub long_value : Kind → (word : ℕ) → ℤ
long_value kind word = if is_signed kind then signed_bits 64 (pos word) else pos word

-- a long value outside the range that its kind has where long has so many bytes
pub record IsTooWide (long : ℕ) (types : List Ty) (c : Checkpoint) (object : Root) (leaf : ℕ)
    (fault : ImageFault) : Type 0 where
  pub kind : Kind
  pub is_whole : type_of_leaf types object leaf ≡ Some (Whole kind)
  pub kind_is_long : is_long kind ≡ true
  pub outside :
      in_range kind (8 * long) (long_value kind (word_of_leaf types c.bytes object leaf))
      ≡ false
  pub fault_is :
      fault
      ≡ TooNarrow (long_value kind (word_of_leaf types c.bytes object leaf))
      (file_place types c object leaf)

-- what is looked for in a leaf
abbrev pub IsFaulty : Sought → List Ty → List Root → Checkpoint → Root → ℕ → ImageFault → Type 0
IsFaulty Words types objects c object leaf fault = IsBadWord types objects c object leaf fault
IsFaulty (Values long) types objects c object leaf fault = IsTooWide long types c object leaf fault

module _ (sought : Sought) (types : List Ty) (objects : List Root) (c : Checkpoint) where
  -- a leaf of an object is faulty
  pub record FaultyLeaf (number leaf : ℕ) (fault : ImageFault) : Type 0 where
    pub object : Root
    pub is_object : slice_get objects number ≡ Some object
    pub within : leaf < leaf_count types object
    pub faulty : IsFaulty sought types objects c object leaf fault

  -- the first in the order of the data: of the earliest object its earliest leaf
  pub record IsFirstFaulty (fault : ImageFault) : Type 0 where
    pub number : ℕ
    pub leaf : ℕ
    pub here : FaultyLeaf number leaf fault
    pub first : (n l : ℕ) (other : ImageFault) → FaultyLeaf n l other
        → (number < n) ⊎ ((number ≡ n) × (leaf ≤ l))

  -- no leaf is
  abbrev pub IsFaultless : Type 0
  IsFaultless = (n l : ℕ) (fault : ImageFault) → FaultyLeaf n l fault → ⊥
