-- Each undefined act, and what is none beside it.
use Rattle.std.specs.Prelude.{ℕ, pos, negsuc, false, [], ◌∷◌}
use Rattle.porch_types.specs.declared.shapes.Kind.{Kind}
use Rattle.porch_types.specs.declared.shapes.Kind.TheVariants.{Char, Int, UInt, Long, ULong}
use Rattle.porch_values.specs.declared.acts.Act.TheVariants as act
use Rattle.porch_values.specs.declared.acts.Op.TheVariants.{Add, Div, Rem, Shl}
use Rattle.porch_objects.specs.Meaning.{allocated, freed, Ended, Met}
use Rattle.porch_typed.specs.declared.typed.Comparison.TheVariants.{Less, Equal, NotEqual}
use Rattle.porch_typed.specs.declared.typed.Direction.TheVariants.{Forward}
use Rattle.porch_typed.specs.declared.typed.Operator.TheVariants as operator
use Rattle.porch_typed.specs.declared.typed.Unary.TheVariants.{Complement}
use Rattle.porch_typed.specs.Mirror.{Expression, Program}
use Rattle.porch_typed.specs.Mirror as tree
use Rattle.porch_mean.specs.worked.Write.{program, give, wide, narrow, both, INT, LONG, ULONG, INT_POINTER, PAIR, SQUARE, int, long, local, join, combine, comma, pointer_in, at, behind, array, inner, compare, evaluate, declare, global, main_of, Means, Gives, Meets}

-- an expression statement in main, with an int variable that is z
abbrev pub with_int : Expression → Expression → Program
with_int z e = main_of [] (INT ∷ []) (declare 0 z ∷ evaluate e ∷ [])

-- with two globals: int *p, which is null, and int a[2]
abbrev pub null_pointer : Expression
null_pointer = pointer_in (tree.global 0)

abbrev pub numbers : Expression
numbers = array (tree.global 1)

-- and int m[2][2], of which these are m[0] and m[1]
abbrev pub row_0 : Expression
row_0 = inner (tree.global 2) 0

abbrev pub row_1 : Expression
row_1 = inner (tree.global 2) 1

abbrev pub with_globals : Expression → Program
with_globals e = main_of (global INT_POINTER [] ∷ global PAIR [] ∷ global SQUARE [] ∷ []) [] (evaluate e ∷ [])

-- z=2147483647; z+1
abbrev pub MeetsOverflow : Type 0
MeetsOverflow =
    Meets (with_int (int 2147483647) (combine Add (local 0) (int 1))) 9 [] 1 act.Overflow
    × Gives (with_int (int 2147483646) (combine Add (local 0) (int 1))) 9 [] 1 (pos 0)

-- z=-2147483647-1; z%-1
abbrev pub LeastHasNoRemainder : Type 0
LeastHasNoRemainder =
    Meets (with_int (tree.constant Int (negsuc 2147483647)) (combine Rem (local 0) (tree.constant Int (negsuc 0)))) 9 [] 1 act.Overflow

-- char c=127; c++; return c; and the same with a long
abbrev pub incremented : ℕ → Kind → Program
incremented ty kind =
    program [] (ty ∷ [])
    (tree.declare 0 (tree.value (tree.conversion kind (int 127))) ∷ evaluate (tree.increment ty false Forward (tree.variable 0))
    ∷ give (tree.conversion Int (tree.read ty (tree.variable 0))) ∷ []) []

abbrev pub CharsGoThroughInt : Type 0
CharsGoThroughInt = Gives (incremented 0 Char) 9 [] 1 (negsuc 127) × Gives (incremented LONG Long) 9 [] 1 (pos 128)

-- z=0; 1/z
abbrev pub MeetsDivide : Type 0
MeetsDivide = Meets (with_int (int 0) (combine Div (int 1) (local 0))) 9 [] 1 act.Divide

-- z=40; 2147483647<<z: Shift is tested before Overflow
abbrev pub MeetsShift : Type 0
MeetsShift = Meets (with_int (int 40) (join (int 2147483647) (operator.Shift Shl Int) (local 0))) 9 [] 1 act.Shift

-- 1l<<32, a shift of a long of 64 bits alone
abbrev pub shifted_long : Program
shifted_long = main_of [] [] (evaluate (join (long 1) (operator.Shift Shl Long) (int 32)) ∷ [])

abbrev pub ShiftsByWidth : Type 0
ShiftsByWidth =
    Means shifted_long wide 9 [] [] 1 (Ended (pos 0)) × Means shifted_long narrow 9 [] [] 1 (Met act.Shift)
    × Means shifted_long both 9 [] [] 1 (Met act.Shift)

-- unsigned long z=0; ~z
abbrev pub complemented : Program
complemented =
    main_of [] (ULONG ∷ [])
    (tree.declare 0 (tree.value (tree.constant ULong (pos 0))) ∷ evaluate (tree.unary Complement ULong (tree.read ULONG (tree.variable 0))) ∷ [])

abbrev pub MeetsNarrow : Type 0
MeetsNarrow =
    Means complemented wide 9 [] [] 1 (Ended (pos 0)) × Means complemented narrow 9 [] [] 1 (Ended (pos 0))
    × Means complemented both 9 [] [] 1 (Met act.Narrow)

-- -1/0ul: the conversion of -1 is a step of its own, before the division
abbrev pub divided : Program
divided = main_of [] [] (evaluate (join (tree.constant Int (negsuc 0)) (operator.Arithmetic Div ULong) (tree.constant ULong (pos 0))) ∷ [])

abbrev pub ConvertsFirst : Type 0
ConvertsFirst = Means divided wide 9 [] [] 1 (Met act.Divide) × Means divided both 9 [] [] 1 (Met act.Narrow)

-- int x; x;
abbrev pub ReadsNoValue : Type 0
ReadsNoValue = Meets (main_of [] (INT ∷ []) (tree.declare 0 tree.nothing ∷ evaluate (local 0) ∷ [])) 9 [] 1 act.Indeterminate

-- int x=x;
abbrev pub ReadsItself : Type 0
ReadsItself = Meets (main_of [] (INT ∷ []) (declare 0 (local 0) ∷ [])) 9 [] 1 act.Indeterminate

-- *p, *(a+2) and &p->x, where p is null; &*p and &a[2] read nothing
abbrev pub MeetsAccess : Type 0
MeetsAccess =
    Meets (with_globals (at null_pointer)) 9 [] 1 act.Access × Meets (with_globals (at (behind numbers 2))) 9 [] 1 act.Access
    × Meets
    (main_of (global 15 [] ∷ []) [] (evaluate (tree.address INT_POINTER (tree.member 0 (tree.pointee (tree.read 15 (tree.global 0))))) ∷ []))
    9 [] 1 act.Access
    × Gives (with_globals (tree.address INT_POINTER (tree.pointee null_pointer))) 9 [] 1 (pos 0)
    × Gives (with_globals (tree.address INT_POINTER (tree.pointee (behind numbers 2)))) 9 [] 1 (pos 0)

-- a-1, a+3 and p+0, where p is null
abbrev pub MeetsRow : Type 0
MeetsRow =
    Meets (with_globals (join numbers (operator.Back INT_POINTER) (int 1))) 9 [] 1 act.Row
    × Meets (with_globals (behind numbers 3)) 9 [] 1 act.Row × Meets (with_globals (behind null_pointer 0)) 9 [] 1 act.Row

-- p<a, and a-m[0]; a+2-a is none
abbrev pub MeetsRelation : Type 0
MeetsRelation =
    Meets (with_globals (compare Less null_pointer numbers)) 9 [] 1 act.Relation
    × Meets (with_globals (join numbers (operator.Difference INT_POINTER) row_0)) 9 [] 1 act.Relation
    × Gives (with_globals (join (behind numbers 2) (operator.Difference INT_POINTER) numbers)) 9 [] 1 (pos 0)

-- m[1]!=m[0]+2; m[0]!=m[0]+2 is none
abbrev pub MeetsCompare : Type 0
MeetsCompare =
    Meets (with_globals (compare NotEqual row_1 (behind row_0 2))) 9 [] 1 act.Compare
    × Gives (with_globals (compare NotEqual row_0 (behind row_0 2))) 9 [] 1 (pos 0)

-- free(a); free of null is none
abbrev pub MeetsFree : Type 0
MeetsFree =
    Meets (with_globals (tree.release numbers)) 9 [] 1 act.Free × Gives (with_globals (tree.release null_pointer)) 9 [] 1 (pos 0)

-- malloc(0*sizeof(int)), and malloc(1*sizeof(int)), which is none
abbrev pub MeetsCount : Type 0
MeetsCount =
    Meets (with_globals (tree.allocate INT_POINTER false (int 0))) 9 [] 1 act.Count
    × Means (with_globals (tree.allocate INT_POINTER false (int 1))) both 9 [] (allocated 1 1 ∷ []) 1 (Ended (pos 0))

-- int *p=malloc(sizeof(int)); *p=1; free(p); p;
abbrev pub PointersEndWithTheirObject : Type 0
PointersEndWithTheirObject =
    Means
    (main_of [] (INT_POINTER ∷ [])
    (tree.declare 0 (tree.value (tree.allocate INT_POINTER false (int 1)))
    ∷ evaluate (tree.assign INT (tree.pointee (pointer_in (tree.variable 0))) (int 1)) ∷ evaluate (tree.release (pointer_in (tree.variable 0)))
    ∷ evaluate (pointer_in (tree.variable 0)) ∷ []))
    both 9 [] (allocated 1 1 ∷ freed ∷ []) 1 (Met act.Indeterminate)

-- int *p=malloc(sizeof(int)); *p=1; and then an expression statement
abbrev pub with_block : Expression → Program
with_block e =
    main_of [] (INT_POINTER ∷ [])
    (tree.declare 0 (tree.value (tree.allocate INT_POINTER false (int 1)))
    ∷ evaluate (tree.assign INT (tree.pointee (pointer_in (tree.variable 0))) (int 1)) ∷ evaluate e ∷ [])

abbrev pub p : Expression
p = pointer_in (tree.variable 0)

abbrev pub freed_then : Expression → Expression
freed_then e = comma (tree.release p) e

abbrev pub FreedThenMeets : Expression → Type 0
FreedThenMeets e = Means (with_block e) both 9 [] (allocated 1 1 ∷ freed ∷ []) 1 (Met act.Indeterminate)

-- p==(free(p),NULL), *p=(free(p),1) and (free(p),free(p)): what is held or read is gone
abbrev pub HeldPointersEnd : Type 0
HeldPointersEnd =
    FreedThenMeets (compare Equal p (freed_then (tree.null_pointer INT_POINTER)))
    × FreedThenMeets (tree.assign INT (tree.pointee p) (freed_then (int 1))) × FreedThenMeets (freed_then (tree.release p))

-- free(p+1)
abbrev pub FreesOnlyWholeBlocks : Type 0
FreesOnlyWholeBlocks = Means (with_block (tree.release (behind p 1))) both 9 [] (allocated 1 1 ∷ []) 1 (Met act.Free)

-- malloc(2147483648u*sizeof(int))
abbrev pub CountsHaveAnEnd : Type 0
CountsHaveAnEnd = Meets (with_globals (tree.allocate INT_POINTER false (tree.constant UInt (pos 2147483648)))) 9 [] 1 act.Count

-- long l=2147483647; l+1; return 0;
abbrev pub long_sum : Program
long_sum =
    main_of [] (LONG ∷ [])
    (tree.declare 0 (tree.value (long 2147483647))
    ∷ evaluate (join (tree.read LONG (tree.variable 0)) (operator.Arithmetic Add Long) (int 1)) ∷ [])

-- (unsigned long)-1
abbrev pub unsigned_minus_one : Program
unsigned_minus_one = main_of [] [] (evaluate (tree.conversion ULong (tree.constant Int (negsuc 0))) ∷ [])

-- (long)4294967295u
abbrev pub wide_conversion : Program
wide_conversion = main_of [] [] (evaluate (tree.conversion Long (tree.constant UInt (pos 4294967295))) ∷ [])

abbrev pub LongsGoByWidth : Type 0
LongsGoByWidth =
    Means long_sum wide 9 [] [] 1 (Ended (pos 0)) × Means long_sum narrow 9 [] [] 1 (Met act.Overflow)
    × Means long_sum both 9 [] [] 1 (Met act.Overflow) × Means wide_conversion wide 9 [] [] 1 (Ended (pos 0))
    × Means wide_conversion narrow 9 [] [] 1 (Met act.Overflow)

abbrev pub ConversionsGoByWidth : Type 0
ConversionsGoByWidth =
    Means unsigned_minus_one wide 9 [] [] 1 (Ended (pos 0)) × Means unsigned_minus_one narrow 9 [] [] 1 (Ended (pos 0))
    × Means unsigned_minus_one both 9 [] [] 1 (Met act.Narrow)
