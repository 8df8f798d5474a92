-- Calls and allocations as one list, by rising number.
use Rattle.std.specs.Prelude.{◌≡◌, ◌≢◌, ℕ, ◌+◌, ◌<◌, ◌≤◌, List, [], ◌∷◌, slice_get, length, Bool, not, nat_eq, if◌then◌else◌, Some}
use Rattle.porch_objects.specs.Store.{Object, Activation, HeapObject, Store}

abbrev pub with_variables : Activation → List Object → Activation
with_variables entry variables = record { number = entry.number; variables = variables }

-- each number is greater than the one before it, and the first at least this
abbrev pub IsRising : ℕ → List Activation → Type 0
IsRising low [] = Unit {0}
IsRising low (entry ∷ more) = (low ≤ entry.number) × IsRising (entry.number + 1) more

-- each number is below this
abbrev pub IsBelow : ℕ → List Activation → Type 0
IsBelow high [] = Unit {0}
IsBelow high (entry ∷ more) = (entry.number < high) × IsBelow high more

-- the entry of a number stands here
pub record StandsAt (entries : List Activation) (number index : ℕ) : Type 0 where
  pub entry : Activation
  pub there : slice_get entries index ≡ Some entry
  pub numbered : entry.number ≡ number

-- no entry has this number
pub record HasNone (entries : List Activation) (number : ℕ) : Type 0 where
  pub each : (index : ℕ) (entry : Activation) → slice_get entries index ≡ Some entry → entry.number ≢ number

-- the calls of these entries, the last one first, before the calls that made them
abbrev pub stacked : List Activation → List Activation → List Activation
stacked [] callers = callers
stacked (entry ∷ more) callers = stacked more (entry ∷ callers)

abbrev pub block_before : ℕ → List Object → List HeapObject → List HeapObject
block_before number [] more = more
block_before number (object ∷ others) more = record { number = number; object = object } ∷ more

-- the allocations of these entries: the first object of each that has one
abbrev pub blocks_of : List Activation → List HeapObject
blocks_of [] = []
blocks_of (entry ∷ more) = block_before entry.number entry.variables (blocks_of more)

-- whether an entry has an object
abbrev pub is_live : Activation → Bool
is_live entry = not (nat_eq (length entry.variables) 0)

-- the entries without the objects of one of them
abbrev pub ended : List Activation → ℕ → List Activation
ended [] number = []
ended (entry ∷ more) number = if nat_eq entry.number number then with_variables entry [] ∷ more else entry ∷ ended more number

-- the store of these globals, calls and allocations, with its counts
abbrev pub store_in : List Object → List Activation → List Activation → ℕ → ℕ → ℕ → Store
store_in globals calls blocks called allocated checkpoints =
    record {
      globals = globals;
      calls = stacked calls [];
      blocks = blocks_of blocks;
      called = called;
      allocated = allocated;
      checkpoints = checkpoints;
    }

-- the calls and the allocations of a store stand by rising number, each below its count
pub record AreEntries (calls blocks : List Activation) (called allocated : ℕ) : Type 0 where
  pub calls_rising : IsRising 0 calls
  pub calls_made : IsBelow called calls
  pub blocks_rising : IsRising 0 blocks
  pub blocks_made : IsBelow allocated blocks
