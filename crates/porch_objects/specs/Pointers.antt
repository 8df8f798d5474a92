-- What is done through pointers and with them: each operation once, for the meaning of a source and for the flat machine.
-- Where several acts are possible, Indeterminate comes first.
use Rattle.std.specs.Prelude.{ℕ, zero, suc, ◌+◌, ◌-◌, ◌*◌, ◌/◌, ℤ, pos, negsuc, nat_eq, nat_lt, unsigned_abs, ◌+ℤ◌, ◌-ℤ◌, int_lt, List, [], ◌∷◌, ◌++◌, length, take, drop, Bool, true, false, ◌&&◌, ◌||◌, if◌then◌else◌, Option, Some, None, Result, Ok, Err}
use Rattle.std.specs.Option.{option_map}
use Rattle.porch_types.specs.declared.shapes.Ty.{Ty}
use Rattle.porch_types.specs.declared.parts.Row.{Row}
use Rattle.porch_types.specs.Leaves.{leaves_of}
use Rattle.porch_types.specs.Rows.{row_at, has_shared_end}
use Rattle.porch_values.specs.declared.acts.Act.{Act}
use Rattle.porch_values.specs.declared.acts.Act.TheVariants as act
use Rattle.porch_objects.specs.Store.{Home, of_global, of_call, of_block, Value, number, null, pointer, past, indeterminate, Root, Object, HeapObject, Store, fresh, zeroed, object_at, seen, leaf_at, changed, with_leaves, with_leaf_at, with_blocks}
use Rattle.porch_objects.specs.Meaning.{byte_of}

-- what is done with a value that is there
abbrev pub if_there : {A : Type 0} → Value → (Value → Result A Act) → Result A Act
if_there indeterminate go = Err act.Indeterminate
if_there v go = go v

-- A value is used: not where it is indeterminate by now.
abbrev pub used : {A : Type 0} → Store → Value → (Value → Result A Act) → Result A Act
used s v go = if_there (seen s v) go

-- what is done with a number
abbrev pub if_number : {A : Type 0} → Value → (ℤ → Result A Act) → Result A Act
if_number (number z) go = go z
if_number _ go = Err act.Indeterminate

-- what is done at the place that a pointer names
abbrev pub if_place : {A : Type 0} → Value → (Home → ℕ → Result A Act) → Result A Act
if_place (pointer home leaf) go = go home leaf
if_place _ go = Err act.Access

-- Through a pointer: a leaf is read, or written.
abbrev pub load : Store → Value → Result Value Act
load s p = used s p (λ p. if_place p (λ home leaf. used s (leaf_at s home leaf) (λ v. Ok v)))

abbrev pub store : Store → Value → Value → Result Store Act
store s p v = used s p (λ p. used s v (λ v. if_place p (λ home leaf. Ok (with_leaf_at s home leaf v))))

-- so many leaves of an object from one on
abbrev pub leaves_from : Option Object → ℕ → ℕ → List Value
leaves_from None leaf count = []
leaves_from (Some object) leaf count = take count (drop leaf object.leaves)

-- a list with other values from an index on
abbrev pub spliced : List Value → ℕ → List Value → List Value
spliced values at new = take at values ++ (new ++ drop (at + length new) values)

-- So many leaves are copied as they are, also those that are indeterminate.
abbrev pub copy : ℕ → Store → Value → Value → Result Store Act
copy count s to from =
    used s to (λ to. used s from (λ from.
    if_place to (λ home leaf. if_place from (λ other first.
    Ok (changed (λ object. with_leaves object (spliced object.leaves leaf (leaves_from (object_at s other) first count))) s home)))))

-- the subobject that begins so many leaves behind the beginning of what a pointer names
abbrev pub member : Store → Value → ℕ → Result Value Act
member s p leaf = used s p (λ p. if_place p (λ home first. Ok (pointer home (first + leaf))))

-- Where a pointer stands in its row: the row of its pointee type round it, and the index of its element, which is the
-- row's length where it is one past.
pub record Position : Type 0 where
  pub home : Home
  pub row : Row
  pub index : ℕ

module _ (types : List Ty) (pointee : ℕ) where
  -- the row of the element that begins at a leaf
  abbrev pub row_in : Option Object → ℕ → Option Row
  row_in None leaf = None
  row_in (Some object) leaf = row_at types object.root.ty object.root.count leaf pointee

  abbrev pub position_at : Store → Home → ℕ → ℕ → Option Position
  position_at s home leaf more =
      option_map (λ (row : Row). let p : Position = record { home = home; row = row; index = (leaf - row.first) / leaves_of types pointee + more } in p)
      (row_in (object_at s home) leaf)

  -- null stands in no row
  abbrev pub position_of : Store → Value → Option Position
  position_of s (pointer home leaf) = position_at s home leaf 0
  position_of s (past home leaf until) = position_at s home leaf 1
  position_of s _ = None

  -- whether the end of the element that begins at a leaf is shared with the object that follows
  abbrev pub is_shared : Option Object → ℕ → Bool
  is_shared None leaf = false
  is_shared (Some object) leaf = has_shared_end types object.root.ty object.root.count leaf pointee

  -- the end behind an element; a shared one is good up to the next checkpoint()
  abbrev pub end_behind : Store → Home → ℕ → Value
  end_behind s home leaf = past home leaf (if is_shared (object_at s home) leaf then Some s.checkpoints else None)

  -- the pointer to an element of a row, or one past its last
  abbrev pub element : Store → Home → Row → ℕ → Result Value Act
  element s home row index =
      if nat_lt index row.len
      then Ok (pointer home (row.first + index * leaves_of types pointee))
      else (if nat_eq index row.len then Ok (end_behind s home (row.first + (index - 1) * leaves_of types pointee)) else Err act.Row)

  abbrev pub element_from : Store → Home → Row → ℤ → Result Value Act
  element_from s home row (pos index) = element s home row index
  element_from s home row (negsuc n) = Err act.Row

  abbrev pub step_from : Store → Option Position → ℤ → Result Value Act
  step_from s None z = Err act.Row
  step_from s (Some p) z = element_from s p.home p.row (pos p.index +ℤ z)

  -- Forward by so many elements, or back: within the row and to its end.
  abbrev pub step : Store → Value → ℤ → Result Value Act
  step s p z = used s p (λ p. step_from s (position_of s p) z)

  abbrev pub same_home : Home → Home → Bool
  same_home (of_global a) (of_global b) = nat_eq a b
  same_home (of_call a v) (of_call b w) = nat_eq a b && nat_eq v w
  same_home (of_block a) (of_block b) = nat_eq a b
  same_home _ _ = false

  abbrev pub between : Option Position → Option Position → Result ℤ Act
  between (Some p) (Some q) =
      if same_home p.home q.home && nat_eq p.row.first q.row.first then Ok (pos p.index -ℤ pos q.index) else Err act.Relation
  between _ _ = Err act.Relation

  -- how many elements a pointer stands behind another one of its row
  abbrev pub difference : Store → Value → Value → Result ℤ Act
  difference s p q = used s p (λ p. used s q (λ q. between (position_of s p) (position_of s q)))

  -- An end and the element at the next leaf can't be told apart on every machine.
  abbrev pub equals_end : Home → ℕ → Home → ℕ → Result Bool Act
  equals_end home leaf other end =
      if same_home home other && nat_eq leaf (end + leaves_of types pointee) then Err act.Compare else Ok false

  abbrev pub equal : Value → Value → Result Bool Act
  equal null null = Ok true
  equal (pointer home leaf) (pointer other leaf') = Ok (same_home home other && nat_eq leaf leaf')
  equal (past home leaf until) (past other leaf' until') = Ok (same_home home other && nat_eq leaf leaf')
  equal (pointer home leaf) (past other end until) = equals_end home leaf other end
  equal (past home end until) (pointer other leaf) = equals_end other leaf home end
  equal _ _ = Ok false

  -- whether two pointers are equal
  abbrev pub equality : Store → Value → Value → Result Bool Act
  equality s p q = used s p (λ p. used s q (λ q. equal p q))

  abbrev pub with_byte : ℕ → Result (List ℕ) Act → Result (List ℕ) Act
  with_byte byte (Ok bytes) = Ok (byte ∷ bytes)
  with_byte byte (Err a) = Err a

  -- the bytes from a leaf on up to a byte 0, of which the last is so many leaves on
  abbrev pub text_from : Store → Home → ℕ → ℕ → Result (List ℕ) Act
  text_from s home leaf zero = Err act.Access
  text_from s home leaf (suc more) =
      used s (leaf_at s home leaf) (λ v. if_number v (λ z.
      if nat_eq (byte_of z) 0 then Ok [] else with_byte (byte_of z) (text_from s home (leaf + 1) more)))

  abbrev pub text_in : Store → Option Position → Result (List ℕ) Act
  text_in s None = Err act.Access
  text_in s (Some p) = text_from s p.home (p.row.first + p.index) (p.row.len - p.index)

  -- The text that a pointer to a char names: the bytes up to a byte 0, which must come in its row. They are read one by
  -- one, and the first act that is met is the answer.
  abbrev pub text : Store → Value → Result (List ℕ) Act
  text s p = used s p (λ p. text_in s (position_of s p))

-- the greatest count of an allocation
abbrev pub MOST_COUNT : ℕ
MOST_COUNT = 2_147_483_647

abbrev pub with_block : Store → Object → Store
with_block s object =
    record {
      globals = s.globals;
      calls = s.calls;
      blocks = s.blocks ++ record { number = s.allocated; object = object } ∷ [];
      called = s.called;
      allocated = s.allocated + 1;
      checkpoints = s.checkpoints;
    }

abbrev pub block_of : List Ty → Bool → Root → Object
block_of types zeros root = if zeros then zeroed types root else fresh types root

-- what an allocation gives: a pointer to the first element, and the store with the object
pub record Allocation : Type 0 where
  pub address : Value
  pub store : Store

-- so many elements of a type, zero or without a value
abbrev pub allocate : List Ty → ℕ → Bool → ℤ → Store → Result Allocation Act
allocate types ty zeros count s =
    if int_lt count (pos 1) || int_lt (pos MOST_COUNT) count
    then Err act.Count
    else Ok (record { address = pointer (of_block s.allocated) 0; store = with_block s (block_of types zeros (record { ty = ty; count = unsigned_abs count })) })

-- the allocations without one
abbrev pub without_block : List HeapObject → ℕ → List HeapObject
without_block [] block = []
without_block (heap_object ∷ more) block = if nat_eq heap_object.number block then more else heap_object ∷ without_block more block

-- The object that a pointer to its first leaf names comes to its end; null names none.
abbrev pub release_at : Store → Value → Result Store Act
release_at s null = Ok s
release_at s (pointer (of_block block) zero) = Ok (with_blocks s (without_block s.blocks block))
release_at s _ = Err act.Free

abbrev pub release : Store → Value → Result Store Act
release s p = used s p (λ p. release_at s p)
