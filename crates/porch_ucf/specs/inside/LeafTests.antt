-- The test that is made of the eight bytes of a pointer or a long, by its place alone.
use Rattle.std.specs.Prelude.{◌≡◌, ℕ, ◌+◌, ◌*◌, ◌<◌, List, length, Bool, true, false, Option, Some}
use Rattle.porch_types.specs.declared.shapes.Kind.{Kind}
use Rattle.porch_types.specs.declared.shapes.Ty.{Ty}
use Rattle.porch_types.specs.declared.shapes.Ty.TheVariants.{Whole, Pointer}
use Rattle.porch_values.specs.Integers.{in_range}
use Rattle.porch_layout.specs.Layouts.{IsSize}
use Rattle.porch_find.specs.declared.roots.Root.{Root}
use Rattle.porch_points.specs.Displacements.{IsDisplacement}
use Rattle.porch_ucf.specs.declared.fault.Reason.TheVariants as reason
use Rattle.porch_ucf.specs.declared.fault.ImageFault.{ImageFault}
use Rattle.porch_ucf.specs.declared.fault.ImageFault.TheVariants.{Damaged, TooNarrow}
use Rattle.porch_ucf.specs.declared.leaf_test.LeafTest.{LeafTest}
use Rattle.porch_ucf.specs.declared.leaf_test.LeafTest.TheVariants.{Word, Room}
use Rattle.porch_ucf.specs.declared.leaves.Sought.{Sought}
use Rattle.porch_ucf.specs.declared.leaves.Sought.TheVariants.{Words, Values}
use Rattle.porch_ucf.specs.DataFlaws.{is_long, long_value}
use Rattle.porch_ucf.specs.Fields.{u64_in}
use Rattle.porch_ucf.specs.Images.{Checkpoint}
use Rattle.porch_ucf.specs.Reading.{row_place}

-- the test that is made of leaves of this type
abbrev pub IsTestOf : Sought → Option Ty → LeafTest → Type 0
IsTestOf Words ty (Word pointee) = ty ≡ Some (Pointer pointee)
IsTestOf Words ty (Room kind width) = ⊥
IsTestOf (Values long) ty (Word pointee) = ⊥
IsTestOf (Values long) ty (Room kind width) =
    (ty ≡ Some (Whole kind)) × (is_long kind ≡ true) × (width ≡ long)

-- none is made
abbrev pub IsUntested : Sought → Option Ty → Type 0
IsUntested Words ty = (pointee : ℕ) → ty ≡ Some (Pointer pointee) → ⊥
IsUntested (Values long) ty = (kind : Kind) → ty ≡ Some (Whole kind) → is_long kind ≡ false

-- a test that can be made where the types are these
abbrev pub CanTest : List Ty → LeafTest → Type 0
CanTest types (Word pointee) = pointee < length types
CanTest types (Room kind width) = (is_long kind ≡ true) × IsSize width

-- where a byte of the data stands in the file
abbrev pub data_place : Checkpoint → (place : ℕ) → ℕ
data_place c place = row_place (length c.frames + length c.blocks) + place

-- the long value at a place of the data has no room
abbrev pub FailsRoom : Checkpoint → Kind → (width place : ℕ) → ImageFault → Type 0
FailsRoom c kind width place fault =
    (in_range kind (8 * width) (long_value kind (u64_in c.bytes place)) ≡ false)
    × (fault ≡ TooNarrow (long_value kind (u64_in c.bytes place)) (data_place c place))

module _ (types : List Ty) (objects : List Root) (c : Checkpoint) where
  -- the eight bytes at a place of the data fail a test with this fault
  abbrev pub Fails : LeafTest → (place : ℕ) → ImageFault → Type 0
  Fails (Word pointee) place fault =
      (IsDisplacement types objects pointee (u64_in c.bytes place) → ⊥)
      × (fault ≡ Damaged (data_place c place) reason.Word)
  Fails (Room kind width) place fault = FailsRoom c kind width place fault

  -- none of so many words from a place on fails
  abbrev pub PassBelow : LeafTest → (place many : ℕ) → Type 0
  PassBelow test place many =
      (k : ℕ) (fault : ImageFault) → k < many → Fails test (place + 8 * k) fault → ⊥

  pub record IsFirstFailure (test : LeafTest) (place many : ℕ) (fault : ImageFault) : Type 0 where
    pub number : ℕ
    pub within : number < many
    pub fails : Fails test (place + 8 * number) fault
    pub before : PassBelow test place number
