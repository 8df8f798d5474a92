-- Objects, their values and the store: what the meaning of a source and the flat abstract machine have in common.
--
-- An object is named by what it is, and is alive as long as the store has it. So a pointer to an object that has ended
-- names nothing, and two runs that make the same calls and allocations name their objects alike.
use Rattle.std.specs.Prelude.{ℕ, ◌+◌, ◌*◌, nat_eq, ℤ, pos, List, [], ◌∷◌, length, map, replicate, slice_get, slice_set, slice_index_or, Bool, true, ◌&&◌, is_some, if◌then◌else◌, Option, Some, None}
use Rattle.std.specs.List.{range_with_len}
use Rattle.porch_types.specs.declared.shapes.Ty.{Ty}
use Rattle.porch_types.specs.declared.shapes.Ty.TheVariants.{Pointer}
use Rattle.porch_types.specs.Leaves.{leaves_of}
use Rattle.porch_types.specs.LeafTypes.{leaf_type}

-- which object: a global, a variable of a call, or an allocation. Calls and allocations are counted over the whole run,
-- all from 0.
pub data Home : Type 0 where
  of_global : (global : ℕ) → Home
  of_call : (call variable : ℕ) → Home
  of_block : (block : ℕ) → Home

-- what a leaf holds
pub data Value : Type 0 where
  number : ℤ → Value
  null : Value
  -- the subobject that begins at a leaf of an object
  pointer : (home : Home) → (leaf : ℕ) → Value
  -- One past the subobject that begins at a leaf, which is the last of its row. Where that end is shared with the object
  -- that follows, it is good only as long as so many calls of checkpoint() were reached, and no more.
  past : (home : Home) → (leaf : ℕ) → (until : Option ℕ) → Value
  indeterminate : Value

-- that many elements of a type, in a row
pub record Root : Type 0 where
  pub ty : ℕ
  pub count : ℕ

pub record Object : Type 0 where
  pub root : Root
  -- one value for each leaf, in order
  pub leaves : List Value

-- a call that hasn't returned: which one, and its variables in order
pub record Activation : Type 0 where
  pub number : ℕ
  pub variables : List Object

-- an allocation that wasn't freed: which one, and its object
pub record HeapObject : Type 0 where
  pub number : ℕ
  pub object : Object

-- what lives
pub record Store : Type 0 where
  pub globals : List Object
  -- the innermost first
  pub calls : List Activation
  -- by rising number
  pub blocks : List HeapObject
  -- how many calls and allocations were made, and how many calls of checkpoint() were reached
  pub called : ℕ
  pub allocated : ℕ
  pub checkpoints : ℕ

-- a store of globals alone
abbrev pub store_of : List Object → Store
store_of globals = record { globals = globals; calls = []; blocks = []; called = 0; allocated = 0; checkpoints = 0 }

-- the leaves of a root
abbrev pub leaves_in : List Ty → Root → ℕ
leaves_in types root = root.count * leaves_of types root.ty

-- an object that was given no value
abbrev pub fresh : List Ty → Root → Object
fresh types root = record { root = root; leaves = replicate (leaves_in types root) indeterminate }

-- what a leaf of a type is without an initialiser: null or 0
abbrev pub zero_of : Option Ty → Value
zero_of (Some (Pointer to)) = null
zero_of _ = number (pos 0)

-- an object whose leaves are all 0 and null
abbrev pub zeroed : List Ty → Root → Object
zeroed types root =
    record { root = root; leaves = map (λ leaf. zero_of (slice_get types (leaf_type types root.ty leaf))) (range_with_len 0 (leaves_in types root)) }

-- one element of a type
abbrev pub one_of : ℕ → Root
one_of ty = record { ty = ty; count = 1 }

-- the variables of a call, and none where it isn't there
abbrev pub variables_in : List Activation → ℕ → List Object
variables_in [] call = []
variables_in (activation ∷ callers) call = if nat_eq activation.number call then activation.variables else variables_in callers call

-- the object of an allocation
abbrev pub block_in : List HeapObject → ℕ → Option Object
block_in [] block = None
block_in (heap_object ∷ more) block = if nat_eq heap_object.number block then Some heap_object.object else block_in more block

-- the object of a name, and none where it doesn't live
abbrev pub object_at : Store → Home → Option Object
object_at s (of_global global) = slice_get s.globals global
object_at s (of_call call variable) = slice_get (variables_in s.calls call) variable
object_at s (of_block block) = block_in s.blocks block

-- whether an end is still good: no further checkpoint() was reached than it may see
abbrev pub is_good : Option ℕ → ℕ → Bool
is_good None checkpoints = true
is_good (Some until) checkpoints = nat_eq until checkpoints

-- A value as it is seen now: a pointer to an object that doesn't live, or one past a shared end over a checkpoint(), is
-- indeterminate.
abbrev pub seen : Store → Value → Value
seen s (number z) = number z
seen s null = null
seen s (pointer home leaf) = if is_some (object_at s home) then pointer home leaf else indeterminate
seen s (past home leaf until) = if is_some (object_at s home) && is_good until s.checkpoints then past home leaf until else indeterminate
seen s indeterminate = indeterminate

-- the value of a leaf
abbrev pub leaf_of : Option Object → ℕ → Value
leaf_of None leaf = indeterminate
leaf_of (Some object) leaf = slice_index_or object.leaves leaf indeterminate

abbrev pub leaf_at : Store → Home → ℕ → Value
leaf_at s home leaf = leaf_of (object_at s home) leaf

abbrev pub with_leaves : Object → List Value → Object
with_leaves object leaves = record { root = object.root; leaves = leaves }

-- a list with a change at an index
abbrev pub changed_at : (Object → Object) → List Object → Option Object → ℕ → List Object
changed_at change objects None i = objects
changed_at change objects (Some object) i = slice_set objects i (change object)

-- the calls with a change to a variable of one of them
abbrev pub changed_calls : (Object → Object) → List Activation → ℕ → ℕ → List Activation
changed_calls change [] call variable = []
changed_calls change (activation ∷ callers) call variable =
    if nat_eq activation.number call
    then record { number = activation.number; variables = changed_at change activation.variables (slice_get activation.variables variable) variable } ∷ callers
    else activation ∷ changed_calls change callers call variable

-- the allocations with a change to one of them
abbrev pub changed_blocks : (Object → Object) → List HeapObject → ℕ → List HeapObject
changed_blocks change [] block = []
changed_blocks change (heap_object ∷ more) block =
    if nat_eq heap_object.number block
    then record { number = heap_object.number; object = change heap_object.object } ∷ more
    else heap_object ∷ changed_blocks change more block

abbrev pub with_globals : Store → List Object → Store
with_globals s globals =
    record { globals = globals; calls = s.calls; blocks = s.blocks; called = s.called; allocated = s.allocated; checkpoints = s.checkpoints }

abbrev pub with_calls : Store → List Activation → Store
with_calls s calls =
    record { globals = s.globals; calls = calls; blocks = s.blocks; called = s.called; allocated = s.allocated; checkpoints = s.checkpoints }

abbrev pub with_blocks : Store → List HeapObject → Store
with_blocks s blocks =
    record { globals = s.globals; calls = s.calls; blocks = blocks; called = s.called; allocated = s.allocated; checkpoints = s.checkpoints }

abbrev pub with_allocated : Store → ℕ → Store
with_allocated s allocated =
    record { globals = s.globals; calls = s.calls; blocks = s.blocks; called = s.called; allocated = allocated; checkpoints = s.checkpoints }

-- the store with a change to one object, where it lives
abbrev pub changed : (Object → Object) → Store → Home → Store
changed change s (of_global global) = with_globals s (changed_at change s.globals (slice_get s.globals global) global)
changed change s (of_call call variable) = with_calls s (changed_calls change s.calls call variable)
changed change s (of_block block) = with_blocks s (changed_blocks change s.blocks block)

-- a leaf becomes a value
abbrev pub with_leaf_at : Store → Home → ℕ → Value → Store
with_leaf_at s home leaf v = changed (λ object. with_leaves object (slice_set object.leaves leaf v)) s home

-- an object has no value any more
abbrev pub forgotten : Store → Home → Store
forgotten s home = changed (λ object. with_leaves object (replicate (length object.leaves) indeterminate)) s home

-- The number of the innermost call, and one that no call has yet where none is made.
abbrev pub innermost_in : List Activation → ℕ → ℕ
innermost_in [] called = called
innermost_in (activation ∷ callers) called = activation.number

abbrev pub innermost : Store → ℕ
innermost s = innermost_in s.calls s.called

-- a variable of the innermost call
abbrev pub variable_home : Store → ℕ → Home
variable_home s variable = of_call (innermost s) variable

-- a call begins, with these variables
abbrev pub entered : Store → List Object → Store
entered s variables =
    record { globals = s.globals; calls = record { number = s.called; variables = variables } ∷ s.calls; blocks = s.blocks; called = s.called + 1; allocated = s.allocated; checkpoints = s.checkpoints }

abbrev pub callers_in : List Activation → List Activation
callers_in [] = []
callers_in (activation ∷ callers) = callers

-- the innermost call ends, and its variables with it
abbrev pub left : Store → Store
left s = with_calls s (callers_in s.calls)

-- one more checkpoint() was reached
abbrev pub reached_one : Store → Store
reached_one s =
    record { globals = s.globals; calls = s.calls; blocks = s.blocks; called = s.called; allocated = s.allocated; checkpoints = s.checkpoints + 1 }
