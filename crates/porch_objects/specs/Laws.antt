-- Laws that show what the words of the store and of meanings mean.
use Rattle.std.specs.Prelude.{ℕ, ℤ, pos, negsuc, int_lt, true, false, ◌≡◌, ◌≢◌, ◌+◌, ◌%◌, ◌<◌, List, [], length, slice_get, Some, None, Ok}
use Rattle.porch_objects.specs.Store.{Home, of_call, of_block, Value, pointer, past, indeterminate, Object, Store, variables_in, block_in, with_allocated, object_at, seen, leaf_at, with_leaf_at, entered, left, reached_one}
use Rattle.porch_objects.specs.Meaning.{truth, byte_of}
use Rattle.porch_objects.specs.Pointers.{with_block, release}

-- a stored value is read back, and every other leaf of every object is as it was
pub record StoresAt (s : Store) (home : Home) (leaf : ℕ) (v : Value) : Type 0 where
  pub read : (object : Object) → object_at s home ≡ Some object → leaf < length object.leaves → leaf_at (with_leaf_at s home leaf v) home leaf ≡ v
  pub other_leaf : (k : ℕ) → k ≢ leaf → leaf_at (with_leaf_at s home leaf v) home k ≡ leaf_at s home k
  pub other_object : (other : Home) (k : ℕ) → other ≢ home → leaf_at (with_leaf_at s home leaf v) other k ≡ leaf_at s other k

-- seeing a value twice is seeing it once
abbrev pub SeenOnce : Type 0
SeenOnce = (s : Store) (v : Value) → seen s (seen s v) ≡ seen s v

-- A checkpoint() that is reached makes an end that is shared with what follows indeterminate, once and for all, and
-- leaves every other value as it was.
pub record ForgetsEnds (s : Store) (home : Home) (leaf : ℕ) : Type 0 where
  pub shared : seen (reached_one s) (past home leaf (Some s.checkpoints)) ≡ indeterminate
  pub unshared : seen (reached_one s) (past home leaf None) ≡ seen s (past home leaf None)
  pub element : seen (reached_one s) (pointer home leaf) ≡ seen s (pointer home leaf)

-- A call's variables live from its beginning to its end, and every other object is as it was before.
pub record EndsWithItsCall (s : Store) (variables : List Object) : Type 0 where
  pub lives : (v : ℕ) → object_at (entered s variables) (of_call s.called v) ≡ slice_get variables v
  pub ended : (v : ℕ) → variables_in s.calls s.called ≡ [] → object_at (left (entered s variables)) (of_call s.called v) ≡ None
  pub others : (home : Home) → object_at (left (entered s variables)) home ≡ object_at s home

-- An allocation lives from where it is made to where it is freed, and every other object is as it was before.
pub record EndsWhereFreed (s : Store) (object : Object) : Type 0 where
  pub lives : block_in s.blocks s.allocated ≡ None → object_at (with_block s object) (of_block s.allocated) ≡ Some object
  pub ended : block_in s.blocks s.allocated ≡ None
      → release (with_block s object) (pointer (of_block s.allocated) 0) ≡ Ok (with_allocated s (s.allocated + 1))

-- a comparison is 1 where it holds, else 0
pub record IsTruth (x y : ℤ) : Type 0 where
  pub holds : int_lt x y ≡ true → truth x y ≡ pos 1
  pub fails : int_lt x y ≡ false → truth x y ≡ pos 0

-- the byte that is shown of n is n modulo 256, and that of -(n + 1) is the one below 256 that adds up with n + 1 to a multiple of it
pub record IsLowByte (n : ℕ) : Type 0 where
  pub positive : byte_of (pos n) ≡ n % 256
  pub negative : (byte_of (negsuc n) + (n + 1)) % 256 ≡ 0
  pub small : byte_of (negsuc n) < 256
