-- Worked cases of what is done through pointers.
use Rattle.std.specs.Prelude.{pos, negsuc, ◌≡◌, List, [], ◌∷◌, ◌++◌, Some, None, Result, Ok, Err, true, false}
use Rattle.porch_types.specs.declared.shapes.Ty.{Ty}
use Rattle.porch_types.specs.declared.shapes.Ty.TheVariants.{Array}
use Rattle.porch_types.specs.declared.shapes.Kind.TheVariants.{Char}
use Rattle.porch_types.specs.Kinds.{kind_number, int_type}
use Rattle.porch_types.specs.Leaves.{kind_types}
use Rattle.porch_values.specs.declared.acts.Act.{Act}
use Rattle.porch_values.specs.declared.acts.Act.TheVariants as act
use Rattle.porch_objects.specs.Store.{of_global, of_call, of_block, Value, number, null, pointer, past, indeterminate, one_of, Store, store_of, zeroed, fresh, with_leaf_at, seen, entered, left, reached_one}
use Rattle.porch_objects.specs.Pointers.{load, store, member, step, difference, equality, text, allocate, Allocation, release}

-- int[2], int[2][2] and char[3]
abbrev pub types : List Ty
types = kind_types ++ Array int_type 2 ∷ Array 8 2 ∷ Array (kind_number Char) 3 ∷ []

-- int m[2][2]; char t[3];
abbrev pub globals : Store
globals = store_of (zeroed types (one_of 9) ∷ zeroed types (one_of 10) ∷ [])

-- m[0], m[1] and t, as pointers to their first elements
abbrev pub row_0 : Value
row_0 = pointer (of_global 0) 0

abbrev pub row_1 : Value
row_1 = pointer (of_global 0) 2

abbrev pub letters : Value
letters = pointer (of_global 1) 0

-- the end of m[0] is where m[1] begins, and that of m[1] is nobody's
abbrev pub shared_end : Value
shared_end = past (of_global 0) 1 (Some 0)

abbrev pub last_end : Value
last_end = past (of_global 0) 3 None

pub record StepsStayInTheRow : Type 0 where
  pub inside : step types int_type globals row_0 (pos 1) ≡ Ok (pointer (of_global 0) 1)
  pub to_the_end : step types int_type globals row_0 (pos 2) ≡ Ok shared_end
  pub to_the_last_end : step types int_type globals row_1 (pos 2) ≡ Ok last_end
  pub back : step types int_type globals shared_end (negsuc 1) ≡ Ok row_0
  pub behind : step types int_type globals row_0 (pos 3) ≡ Err act.Row
  pub before : step types int_type globals row_1 (negsuc 0) ≡ Err act.Row
  pub from_null : step types int_type globals null (pos 0) ≡ Err act.Row

pub record EndsAreForgotten : Type 0 where
  pub shared : seen (reached_one globals) shared_end ≡ indeterminate
  pub last : seen (reached_one globals) last_end ≡ last_end
  pub made_later : step types int_type (reached_one globals) row_0 (pos 2) ≡ Ok (past (of_global 0) 1 (Some 1))

pub record PointersAreCompared : Type 0 where
  pub apart : difference types int_type globals shared_end row_0 ≡ Ok (pos 2)
  pub other_row : difference types int_type globals row_1 row_0 ≡ Err act.Relation
  pub with_null : difference types int_type globals null null ≡ Err act.Relation
  pub nulls : equality types int_type globals null null ≡ Ok true
  pub same : equality types int_type globals row_1 row_1 ≡ Ok true
  pub end_and_next : equality types int_type globals shared_end row_1 ≡ Err act.Compare
  pub end_and_first : equality types int_type globals shared_end row_0 ≡ Ok false

pub record LeavesAreReached : Type 0 where
  pub zero : load globals row_1 ≡ Ok (number (pos 0))
  pub through_null : load globals null ≡ Err act.Access
  pub through_an_end : store globals last_end (number (pos 1)) ≡ Err act.Access
  pub of_no_value : load (entered globals (fresh types (one_of int_type) ∷ [])) (pointer (of_call 0 0) 0) ≡ Err act.Indeterminate
  pub of_a_call_that_ended : load (left (entered globals (zeroed types (one_of int_type) ∷ []))) (pointer (of_call 0 0) 0) ≡ Err act.Indeterminate
  pub member_of_null : member globals null 0 ≡ Err act.Access

-- the store of an allocation that was answered
abbrev pub store_behind : Result Allocation Act → Store
store_behind (Ok a) = a.store
store_behind (Err a) = globals

-- malloc(2 * sizeof(int))
abbrev pub allocated_two : Store
allocated_two = store_behind (allocate types int_type false (pos 2) globals)

-- the store without it
abbrev pub freed_two : Result Store Act → Store
freed_two (Ok s) = s
freed_two (Err a) = globals

pub record AllocationsAreFreed : Type 0 where
  pub none : allocate types int_type false (pos 0) globals ≡ Err act.Count
  pub too_many : allocate types int_type true (pos 2147483648) globals ≡ Err act.Count
  pub without_value : load allocated_two (pointer (of_block 0) 1) ≡ Err act.Indeterminate
  pub of_null : release globals null ≡ Ok globals
  pub of_a_global : release globals row_0 ≡ Err act.Free
  pub inside : release allocated_two (pointer (of_block 0) 1) ≡ Err act.Free
  pub twice : release (freed_two (release allocated_two (pointer (of_block 0) 0))) (pointer (of_block 0) 0) ≡ Err act.Indeterminate

-- t holds "ab"
abbrev pub lettered : Store
lettered = with_leaf_at (with_leaf_at globals (of_global 1) 0 (number (pos 97))) (of_global 1) 1 (number (pos 98))

pub record TextsEndInTheirRow : Type 0 where
  pub whole : text types (kind_number Char) lettered letters ≡ Ok (97 ∷ 98 ∷ [])
  pub rest : text types (kind_number Char) lettered (pointer (of_global 1) 1) ≡ Ok (98 ∷ [])
  pub unended : text types (kind_number Char) (with_leaf_at lettered (of_global 1) 2 (number (pos 99))) letters ≡ Err act.Access
