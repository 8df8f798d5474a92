-- Pointers, arrays, structs and blocks.
use Rattle.std.specs.Prelude.{ℕ, pos, true, false, List, [], ◌∷◌, Some}
use Rattle.porch_types.specs.declared.shapes.Kind.TheVariants.{Char, Int}
use Rattle.porch_values.specs.declared.acts.Op.TheVariants.{Add, Mul}
use Rattle.porch_typed.specs.declared.typed.Comparison.TheVariants.{Less, Greater, Equal, NotEqual}
use Rattle.porch_typed.specs.declared.typed.Direction.TheVariants.{Forward}
use Rattle.porch_typed.specs.declared.typed.Fill.TheVariants as fill
use Rattle.porch_typed.specs.declared.typed.Operator.TheVariants as operator
use Rattle.porch_typed.specs.Mirror.{Expression, Statement, Place, Program}
use Rattle.porch_typed.specs.Mirror as tree
use Rattle.porch_mean.specs.worked.Write.{INT, INT_POINTER, PAIR, SQUARE, int, local, join, combine, call, comma, at, address_of, behind, array, inner, pointer_in, compare, evaluate, give, function, global, program}
use Rattle.porch_mean.specs.worked.Structs.{STRUCT, STRUCT_POINTER, x_of, element_of, copy, read, store, v}

abbrev pub store_at : Place → Expression → Statement
store_at place e = evaluate (tree.assign INT place e)

abbrev pub point : ℕ → Expression → Statement
point v e = evaluate (tree.assign INT_POINTER (tree.variable v) e)

-- the int that the pointer in variable v points to
abbrev pub pointed : ℕ → Place
pointed v = tree.pointee (pointer_in (tree.variable v))

abbrev pub weigh : Expression → ℕ → Expression
weigh e n = combine Mul e (int n)

-- int x, m[2], *p, **q; p = &x; *p = 4; q = &p; **q += 3; (*p)++; return x * 10 + *p;
abbrev pub through_pointers : Program
through_pointers =
    program [] (INT ∷ PAIR ∷ INT_POINTER ∷ 16 ∷ [])
    (point 2 (address_of 0) ∷ store_at (pointed 2) (int 4) ∷ evaluate (tree.assign 16 (tree.variable 3) (tree.address 16 (tree.variable 2)))
    ∷ evaluate (tree.assign_by INT (operator.Arithmetic Add Int) (tree.pointee (tree.read INT_POINTER (tree.pointee (tree.read 16 (tree.variable 3))))) (int 3))
    ∷ evaluate (tree.increment INT false Forward (pointed 2))
    ∷ give (combine Add (weigh (local 0) 10) (at (pointer_in (tree.variable 2)))) ∷ []) []

-- int m[2][2], *p; p = m[0]; *p++ = 1; *p++ = 2; m[1][0] = 3; m[1][1] = m[0][1] + m[1][0]; return m[1][1] * 10 + (&m[1][1] - m[1]);
abbrev pub entry : ℕ → ℕ → Place
entry i j = tree.pointee (behind (inner (tree.variable 0) i) j)

abbrev pub rows : Program
rows =
    program [] (SQUARE ∷ INT_POINTER ∷ [])
    (point 1 (inner (tree.variable 0) 0)
    ∷ store_at (tree.pointee (tree.increment INT_POINTER false Forward (tree.variable 1))) (int 1)
    ∷ store_at (tree.pointee (tree.increment INT_POINTER false Forward (tree.variable 1))) (int 2)
    ∷ store_at (entry 1 0) (int 3) ∷ store_at (entry 1 1) (combine Add (tree.read INT (entry 0 1)) (tree.read INT (entry 1 0)))
    ∷ give
    (combine Add (weigh (tree.read INT (entry 1 1)) 10)
    (tree.conversion Int (join (tree.address INT_POINTER (entry 1 1)) (operator.Difference INT_POINTER) (inner (tree.variable 0) 1)))) ∷ []) []

-- int m[2], *p, *q; p = m; q = 1 + m; return (p < q) + (p == q) * 2 + (p != 0) * 4 + (q > p) * 8 + !p * 16 + (0 == 0) * 32;
abbrev pub compared : Program
compared =
    program [] (PAIR ∷ INT_POINTER ∷ INT_POINTER ∷ [])
    (point 1 (array (tree.variable 0)) ∷ point 2 (join (int 1) (operator.ForwardOf INT_POINTER) (array (tree.variable 0)))
    ∷ give
    (combine Add (compare Less (pointer_in (tree.variable 1)) (pointer_in (tree.variable 2)))
    (combine Add (weigh (compare Equal (pointer_in (tree.variable 1)) (pointer_in (tree.variable 2))) 2)
    (combine Add (weigh (compare NotEqual (pointer_in (tree.variable 1)) (tree.null_pointer INT_POINTER)) 4)
    (combine Add (weigh (compare Greater (pointer_in (tree.variable 2)) (pointer_in (tree.variable 1))) 8)
    (combine Add (weigh (tree.isnt (pointer_in (tree.variable 1))) 16)
    (weigh (compare Equal (tree.null_pointer INT_POINTER) (tree.null_pointer INT_POINTER)) 32)))))) ∷ []) []

-- struct s {int x; int a[2];} a, b, c; a.x=1; a.a[1]=5; c=1?a:b; return (b=c).x+b.a[1];
abbrev pub structs : Program
structs =
    program [] (STRUCT ∷ STRUCT ∷ STRUCT ∷ [])
    (store (x_of (v 0)) 1 ∷ store (element_of (v 0) 1) 5
    ∷ evaluate (tree.assign STRUCT (v 2) (tree.choice (Some STRUCT) (int 1) (tree.whole STRUCT (v 0)) (tree.whole STRUCT (v 1))))
    ∷ give (combine Add (tree.member_of INT 0 (copy (v 1) (v 2))) (read (element_of (v 1) 1))) ∷ []) []

-- struct s a = {7}, *p; p = &a; p->a[0] = p->x + 1; struct s b = *p; return b.a[0] * 10 + b.x;
abbrev pub members : Program
members =
    program [] (STRUCT ∷ STRUCT_POINTER ∷ STRUCT ∷ [])
    (tree.declare 0 (tree.filled ((0, fill.Constant (pos 7)) ∷ []))
    ∷ evaluate (tree.assign STRUCT_POINTER (v 1) (tree.address STRUCT_POINTER (v 0)))
    ∷ evaluate
    (tree.assign INT (element_of (tree.pointee (tree.read STRUCT_POINTER (v 1))) 0)
    (combine Add (read (x_of (tree.pointee (tree.read STRUCT_POINTER (v 1))))) (int 1)))
    ∷ tree.declare 2 (tree.value (tree.whole STRUCT (tree.pointee (tree.read STRUCT_POINTER (v 1)))))
    ∷ give (combine Add (weigh (read (element_of (v 2) 0)) 10) (read (x_of (v 2)))) ∷ []) []

-- int g = 5, *h = &g; struct {int x; int *p;} s = {3, &g}; return *h + *s.p + s.x;
abbrev pub filled : Program
filled =
    program (global INT ((0, fill.Constant (pos 5)) ∷ []) ∷ global INT_POINTER ((0, fill.Address 0 0) ∷ []) ∷ []) (17 ∷ [])
    (tree.declare 0 (tree.filled ((0, fill.Constant (pos 3)) ∷ (1, fill.Address 0 0) ∷ []))
    ∷ give
    (combine Add (at (pointer_in (tree.global 1)))
    (combine Add (at (pointer_in (tree.member 1 (tree.variable 0)))) (tree.read INT (tree.member 0 (tree.variable 0))))) ∷ []) []

-- int *p, *q; p = malloc(2 * sizeof(int)); q = calloc(1, sizeof(int)); p[1] = 4; free(p); free(0); checkpoint(); return *q;
abbrev pub blocks : Program
blocks =
    program [] (INT_POINTER ∷ INT_POINTER ∷ [])
    (point 0 (tree.allocate INT_POINTER false (int 2)) ∷ point 1 (tree.allocate INT_POINTER true (tree.conversion Char (int 1)))
    ∷ store_at (tree.pointee (behind (pointer_in (tree.variable 0)) 1)) (int 4) ∷ evaluate (tree.release (pointer_in (tree.variable 0)))
    ∷ evaluate (tree.release (tree.null_pointer INT_POINTER)) ∷ evaluate tree.checkpoint ∷ give (at (pointer_in (tree.variable 1))) ∷ []) []

-- int *p; and one statement
abbrev pub with_pointer : Statement → Program
with_pointer a = program [] (INT_POINTER ∷ PAIR ∷ INT_POINTER ∷ []) (a ∷ []) []

abbrev pub p : Expression
p = pointer_in (tree.variable 0)

abbrev pub null : Expression
null = tree.null_pointer INT_POINTER

-- p = m[0] + 2 of a square in variable 0, where variable 1 is p: an end that is shared
abbrev pub shared_end : Expression
shared_end = behind (inner (tree.variable 0) 0) 2

-- int f(int *p, int c){return c;} int main(void){int m[2][2]; return f(m[0] + 2, (checkpoint(), 1));}
abbrev pub held_end : Program
held_end =
    program [] (SQUARE ∷ []) (give (call 1 (shared_end ∷ comma tree.checkpoint (int 1) ∷ [])) ∷ [])
    (function 2 (INT_POINTER ∷ INT ∷ []) (give (local 1) ∷ []) ∷ [])

-- *p = (free(p), 1); where the place is held
abbrev pub held_place : Program
held_place =
    program [] (INT_POINTER ∷ [])
    (point 0 (tree.allocate INT_POINTER false (int 1)) ∷ store_at (pointed 0) (comma (tree.release p) (int 1)) ∷ []) []

-- m[0] + 3; p + 1 of null; *0 = 1; &*p of null is none; p == one past; p < null; free(&x); malloc of none
abbrev pub bad_pointers : List Program
bad_pointers =
    with_pointer (point 0 (behind (array (tree.variable 1)) 3)) ∷ with_pointer (point 0 (behind null 1))
    ∷ with_pointer (store_at (tree.pointee null) (int 1)) ∷ with_pointer (point 0 (tree.address INT_POINTER (tree.pointee null)))
    ∷ with_pointer (point 0 p)
    ∷ program [] (SQUARE ∷ []) (evaluate (compare Equal shared_end (inner (tree.variable 0) 1)) ∷ []) []
    ∷ with_pointer (evaluate (compare Less (array (tree.variable 1)) null)) ∷ with_pointer (evaluate (tree.release (array (tree.variable 1))))
    ∷ with_pointer (point 0 (tree.allocate INT_POINTER false (int 0)))
    ∷ with_pointer (give (at (behind (array (tree.variable 1)) 2))) ∷ []

abbrev pub place_programs : List Program
place_programs = through_pointers ∷ rows ∷ compared ∷ structs ∷ members ∷ filled ∷ blocks ∷ held_end ∷ held_place ∷ []
