-- The values of an object's leaves, as they are kept.
use Rattle.std.specs.Prelude.{ℕ, List, [], ◌∷◌, map, slice_get}
use Rattle.std.specs.List.{range_with_len}
use Rattle.porch_types.specs.declared.shapes.Ty.{Ty}
use Rattle.porch_types.specs.LeafTypes.{leaf_type}
use Rattle.porch_objects.specs.Store as store
use Rattle.porch_objects.specs.Store.{zero_of}
use Rattle.porch_live.specs.declared.value.Value.{Value}
use Rattle.porch_live.specs.declared.leaves.Leaves.{Leaves}
use Rattle.porch_live.specs.declared.leaves.Leaves.TheVariants.{One, Many, Few}

abbrev pub values_in : Leaves → List Value
values_in (One value) = value ∷ []
values_in (Many values) = values.items
values_in (Few values) = values.value

-- the value of a leaf of a type that is 0 or null
abbrev pub zero_at : List Ty → ℕ → ℕ → store.Value
zero_at types ty leaf = zero_of (slice_get types (leaf_type types ty leaf))

-- so many leaves of a type that are all 0 and null
abbrev pub zeros_of : List Ty → ℕ → ℕ → List store.Value
zeros_of types ty count = map (zero_at types ty) (range_with_len 0 count)
