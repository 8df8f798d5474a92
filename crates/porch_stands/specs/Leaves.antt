-- What is written to a leaf is read there, and every other leaf is as it was.
use Rattle.std.specs.Prelude.{ℕ, ◌≡◌, ◌≢◌, ◌<◌, ◌+◌, ℤ, IsTrue, slice_get, Some}
use Rattle.porch_types.specs.LeafTypes.{leaf_type}
use Rattle.porch_values.specs.declared.widths.Widths.{Widths}
use Rattle.porch_objects.specs.Store.{Home, Value, Object, leaves_in, object_at, with_leaf_at}
use Rattle.porch_flat.specs.declared.whole.Flat.{Flat}
use Rattle.porch_abstract.specs.Machine as abstract
use Rattle.porch_bytes.specs.Leaf.{leaf_value, with_leaf_value}
use Rattle.porch_bytes.specs.Shapes.{shape_of, is_in_shape}
use Rattle.porch_bytes.specs.State.{Setting, State, with_memory}
use Rattle.porch_bytes.specs.Column.{leaf_place}
use Rattle.porch_bytes.specs.StandsFor.{HoldsLeaf}
use Rattle.porch_stands.specs.Follows.{IsStoodFor}
use Rattle.porch_stands.specs.Placed.{HasTypes}

-- a leaf of an object that lives, its address and its type
pub record IsLeafOf (flat : Flat) (on : Setting) (w : Widths) (m : State) (s : abstract.State) (h : IsStoodFor flat on w m s)
    (home : Home) (leaf at ty : ℕ) : Type 0 where
  pub object : Object
  pub lives : object_at s.store home ≡ Some object
  pub within : leaf < leaves_in flat.types object.root
  pub address_is : at ≡ h.stands.address home + leaf_place flat on object.root.ty leaf
  pub type_is : ty ≡ leaf_type flat.types object.root.ty leaf

-- two leaves of one object, or of two
abbrev pub AreTwo : (home : Home) (leaf : ℕ) (other : Home) (k : ℕ) → Type 0
AreTwo home leaf other k = home ≡ other → leaf ≢ k

-- A number that is written to a leaf leaves every other leaf as it is.
abbrev pub OtherLeavesStay : Type 0
OtherLeavesStay =
    (flat : Flat) (on : Setting) (w : Widths) (m : State) (s : abstract.State) → HasTypes flat
    → (h : IsStoodFor flat on w m s) (home : Home) (leaf at ty : ℕ) → IsLeafOf flat on w m s h home leaf at ty
    → (other : Home) (k there type : ℕ) → IsLeafOf flat on w m s h other k there type → AreTwo home leaf other k → (z : ℤ)
    → leaf_value on.layout flat.types (with_leaf_value on.layout flat.types m.memory at ty z) there type
    ≡ leaf_value on.layout flat.types m.memory there type

-- A number of a leaf's type that is written to it is read there again, whatever the order of bytes.
abbrev pub WrittenLeavesAreRead : Type 0
WrittenLeavesAreRead =
    (flat : Flat) (on : Setting) (w : Widths) (m : State) (s : abstract.State) → HasTypes flat
    → (h : IsStoodFor flat on w m s) (home : Home) (leaf at ty : ℕ) → IsLeafOf flat on w m s h home leaf at ty
    → (z : ℤ) → IsTrue (is_in_shape (shape_of on.layout (slice_get flat.types ty)) z)
    → leaf_value on.layout flat.types (with_leaf_value on.layout flat.types m.memory at ty z) at ty ≡ z

-- A leaf becomes a value of its type, and its bytes the number of that: the machine stands for the state again.
abbrev pub ChangedLeavesStand : Type 0
ChangedLeavesStand =
    (flat : Flat) (on : Setting) (w : Widths) (m : State) (s : abstract.State) → HasTypes flat
    → (h : IsStoodFor flat on w m s) (home : Home) (leaf at ty : ℕ) → IsLeafOf flat on w m s h home leaf at ty
    → (v : Value) (z : ℤ) → HoldsLeaf flat on h.stands.address s.store w ty v z
    → IsTrue (is_in_shape (shape_of on.layout (slice_get flat.types ty)) z)
    → IsStoodFor flat on w (with_memory m (with_leaf_value on.layout flat.types m.memory at ty z))
    (abstract.with_store s (with_leaf_at s.store home leaf v))
