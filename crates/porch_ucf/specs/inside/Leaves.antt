-- The first faulty leaf of one object, as a loop over its leaves finds it.
use Rattle.std.specs.Prelude.{◌≡◌, ℕ, ◌+◌, ◌<◌, ◌≤◌, List, length, slice_get, Some, ⊤}
use Rattle.porch_types.specs.declared.shapes.Ty.{Ty}
use Rattle.porch_types.specs.declared.shapes.Ty.TheVariants.{Pointer}
use Rattle.porch_types.specs.Leaves.{IsTypes}
use Rattle.porch_metrics.specs.Extents.{extent_of, type_extent, ucf_layout}
use Rattle.porch_points.specs.Plans.{AreKnown, FollowOn, end_of}
use Rattle.porch_layout.specs.Layouts.{IsSize}
use Rattle.porch_find.specs.declared.roots.Root.{Root}
use Rattle.porch_ucf.specs.declared.fault.ImageFault.{ImageFault}
use Rattle.porch_ucf.specs.declared.leaves.Sought.{Sought}
use Rattle.porch_ucf.specs.declared.leaves.Sought.TheVariants.{Words, Values}
use Rattle.porch_ucf.specs.Images.{Checkpoint}
use Rattle.porch_ucf.specs.DataFlaws.{IsFaulty, leaf_count, leaf_place, type_of_leaf}

-- each pointer type points to a type of the list
abbrev pub ArePointees : List Ty → Type 0
ArePointees types = (ty to : ℕ) → slice_get types ty ≡ Some (Pointer to) → to < length types

-- objects of known types that follow one another in the data
pub record ArePlaced (types : List Ty) (objects : List Root) : Type 0 where
  pub known : AreKnown types objects
  pub follow : FollowOn ucf_layout types objects

-- a long has 4 or 8 bytes
abbrev pub HasSize : Sought → Type 0
HasSize Words = ⊤
HasSize (Values long) = IsSize long

-- objects end within so many bytes
abbrev pub EndWithin : List Ty → List Root → (most : ℕ) → Type 0
EndWithin types objects most =
    (i : ℕ) (object : Root) → slice_get objects i ≡ Some object
    → end_of ucf_layout types object ≤ most

-- the eight bytes of a pointer or a long lie inside their object
abbrev pub WordsLieInside : Type 0
WordsLieInside =
    (types : List Ty) (object : Root) (leaf : ℕ) (ty : Ty) → IsTypes types
    → object.ty < length types → leaf < leaf_count types object
    → type_of_leaf types object leaf ≡ Some ty
    → (type_extent ucf_layout (extent_of ucf_layout types) ty).size ≡ 8
    → leaf_place types object leaf + 8 ≤ end_of ucf_layout types object

module _ (sought : Sought) (types : List Ty) (objects : List Root) (c : Checkpoint)
    (object : Root) where
  -- no leaf before this one is faulty
  abbrev pub IsSoundBelow : ℕ → Type 0
  IsSoundBelow leaf =
      (l : ℕ) (fault : ImageFault) → l < leaf → IsFaulty sought types objects c object l fault
      → ⊥

  pub record IsFirstOf (fault : ImageFault) : Type 0 where
    pub leaf : ℕ
    pub within : leaf < leaf_count types object
    pub faulty : IsFaulty sought types objects c object leaf fault
    pub before : IsSoundBelow leaf
