-- Changes of objects.
use Rattle.std.specs.Prelude.{ℕ, ◌+◌, Bool, false, Option, Some, None, Result, Ok, Err, nat_le, if◌then◌else◌, List, ◌++◌, take, drop, length, map, replicate, slice_set}
use Rattle.porch_objects.specs.Store.{Value, Object, indeterminate, with_leaves}
use Rattle.porch_objects.specs.Pointers.{spliced}
use Rattle.porch_live.specs.declared.value.Value as code
use Rattle.porch_live.specs.declared.edit.Edit.{Edit}
use Rattle.porch_live.specs.declared.edit.Edit.TheVariants.{Leaf, Part, Forget}
use Rattle.std.specs.declared.alloc.AllocError.{AllocError}
use Rattle.porch_live.specs.Views.{value_of}

-- leaves from one on become others, where the object has all of them
abbrev pub with_part : ℕ → List Value → Object → Object
with_part at values object =
    if nat_le (at + length values) (length object.leaves) then with_leaves object (spliced object.leaves at values) else object

-- whether an object has so many leaves from one on
abbrev pub has_part : Option Object → ℕ → ℕ → Bool
has_part None leaf count = false
has_part (Some object) leaf count = nat_le (leaf + count) (length object.leaves)

-- a list with other values from an index on
abbrev pub spliced_in : List code.Value → ℕ → List code.Value → List code.Value
spliced_in values at new = take at values ++ (new ++ drop (at + length new) values)

-- the first leaf becomes a value
abbrev pub first_becomes : code.Value → Object → Object
first_becomes value object = with_leaves object (slice_set object.leaves 0 (value_of value))

abbrev pub edited : Edit → Object → Object
edited (Leaf leaf value) object = with_leaves object (slice_set object.leaves leaf (value_of value))
edited (Part at values) object = with_part at (map value_of values.items) object
edited Forget object = with_leaves object (replicate (length object.leaves) indeterminate)

-- what is done where memory for it may be refused: forgetting takes none
abbrev pub done : Edit → Result (Unit {0}) AllocError → Object → Object
done Forget answer object = edited Forget object
done (Leaf leaf value) (Ok unit) object = edited (Leaf leaf value) object
done (Leaf leaf value) (Err refused) object = object
done (Part at values) (Ok unit) object = edited (Part at values) object
done (Part at values) (Err refused) object = object
