-- Pointers to pointers, rows of rows, and a list on the heap.
use Rattle.std.specs.Prelude.{ℕ, pos, negsuc, false, [], ◌∷◌, Some}
use Rattle.porch_types.specs.declared.shapes.Kind.TheVariants.{Int}
use Rattle.porch_values.specs.declared.acts.Op.TheVariants.{Add, Mul}
use Rattle.porch_objects.specs.Meaning.{allocated, freed, Ended}
use Rattle.porch_typed.specs.declared.typed.Comparison.TheVariants.{Less}
use Rattle.porch_typed.specs.declared.typed.Direction.TheVariants.{Forward}
use Rattle.porch_typed.specs.declared.typed.Operator.TheVariants as operator
use Rattle.porch_typed.specs.Mirror.{Expression, Place, Statement, Function, Program}
use Rattle.porch_typed.specs.Mirror as tree
use Rattle.porch_mean.specs.worked.Write.{both, INT, INT_POINTER, PAIR, SQUARE, int, local, join, combine, less, step, pointer_in, at, address_of, behind, array, inner, block, evaluate, set, give, declare, global, program, Means, Gives}

-- int **
abbrev pub POINTER_POINTER : ℕ
POINTER_POINTER = 16

-- int x=1, y=2, *p=&x, **pp=&p; *pp=&y; **pp=5; return x*10+y;
abbrev pub PointersToPointers : Type 0
PointersToPointers =
    let target : Place = tree.pointee (tree.read POINTER_POINTER (tree.variable 3)) in
    Gives
    (program [] (INT ∷ INT ∷ INT_POINTER ∷ POINTER_POINTER ∷ [])
    (declare 0 (int 1) ∷ declare 1 (int 2) ∷ tree.declare 2 (tree.value (address_of 0))
    ∷ tree.declare 3 (tree.value (tree.address POINTER_POINTER (tree.variable 2))) ∷ evaluate (tree.assign INT_POINTER target (address_of 1))
    ∷ evaluate (tree.assign INT (tree.pointee (pointer_in target)) (int 5)) ∷ give (combine Add (combine Mul (local 0) (int 10)) (local 1)) ∷ []) [])
    9 [] 1 (pos 15)

-- a pointer to a row
abbrev pub ROW_POINTER : ℕ
ROW_POINTER = 11

-- int m[2][2]; for(r=m;r<m+2;r++){(*r)[1]=n++;} return m[0][1]+m[1][1]*10;, where n begins with 3
abbrev pub RowsOfRows : Type 0
RowsOfRows =
    let m : Expression = tree.first ROW_POINTER (tree.global 0) in
    let r : Expression = tree.read ROW_POINTER (tree.variable 0) in
    Gives
    (program (global SQUARE [] ∷ []) (ROW_POINTER ∷ INT ∷ [])
    (declare 1 (int 3)
    ∷ tree.repeat_for (Some (tree.assign ROW_POINTER (tree.variable 0) m))
    (Some (join r (operator.ComparePointers Less ROW_POINTER) (join m (operator.Forward ROW_POINTER) (int 2))))
    (Some (tree.increment ROW_POINTER false Forward (tree.variable 0)))
    (evaluate (tree.assign INT (tree.pointee (behind (array (tree.pointee r)) 1)) (step 1)))
    ∷ give (combine Add (at (behind (inner (tree.global 0) 0) 1)) (combine Mul (at (behind (inner (tree.global 0) 1) 1)) (int 10))) ∷ []) [])
    9 [] 3 (pos 43)

-- int a[2]; int *p=a; *p++=4; *p++=5; return (p-a)*10+p[-1];, where p-a is a long
abbrev pub StepsThroughAnArray : Type 0
StepsThroughAnArray =
    let p : Expression = pointer_in (tree.variable 0) in
    let next : Expression = tree.increment INT_POINTER false Forward (tree.variable 0) in
    Gives
    (program (global PAIR [] ∷ []) (INT_POINTER ∷ [])
    (tree.declare 0 (tree.value (array (tree.global 0))) ∷ evaluate (tree.assign INT (tree.pointee next) (int 4))
    ∷ evaluate (tree.assign INT (tree.pointee next) (int 5))
    ∷ give
    (combine Add (combine Mul (tree.conversion Int (join p (operator.Difference INT_POINTER) (array (tree.global 0)))) (int 10))
    (at (join p (operator.Forward INT_POINTER) (tree.constant Int (negsuc 0))))) ∷ []) [])
    9 [] 1 (pos 25)

-- a pointer to struct node {int v; struct node *next;}
abbrev pub NODE_POINTER : ℕ
NODE_POINTER = 19

abbrev pub node : ℕ → Expression
node v = tree.read NODE_POINTER (tree.variable v)

abbrev pub next_of : ℕ → Place
next_of v = tree.member 1 (tree.pointee (node v))

abbrev pub number_of : ℕ → Place
number_of v = tree.member 0 (tree.pointee (node v))

abbrev pub assign_node : Place → Expression → Statement
assign_node place e = evaluate (tree.assign NODE_POINTER place e)

-- struct node *l=NULL, *p; int i, s=0; for(i=0;i<2;i++){p=malloc(sizeof *p); p->v=i; p->next=l; l=p;}
-- while(l){s=s*10+l->v; p=l; l=l->next; free(p);} return s;
abbrev pub ListsAreBuiltAndFreed : Type 0
ListsAreBuiltAndFreed =
    Means
    (program [] (NODE_POINTER ∷ NODE_POINTER ∷ INT ∷ INT ∷ [])
    (tree.declare 0 (tree.value (tree.null_pointer NODE_POINTER)) ∷ declare 3 (int 0)
    ∷ tree.repeat_for (Some (tree.assign INT (tree.variable 2) (int 0))) (Some (less (local 2) (int 2))) (Some (step 2))
    (block
    (assign_node (tree.variable 1) (tree.allocate NODE_POINTER false (int 1)) ∷ evaluate (tree.assign INT (number_of 1) (local 2))
    ∷ assign_node (next_of 1) (node 0) ∷ assign_node (tree.variable 0) (node 1) ∷ []))
    ∷ tree.repeat_while (node 0)
    (block
    (set 3 (combine Add (combine Mul (local 3) (int 10)) (tree.read INT (number_of 0))) ∷ assign_node (tree.variable 1) (node 0)
    ∷ assign_node (tree.variable 0) (tree.read NODE_POINTER (next_of 0)) ∷ evaluate (tree.release (node 1)) ∷ []))
    ∷ give (local 3) ∷ []) [])
    both 9 [] (allocated 1 2 ∷ allocated 1 2 ∷ freed ∷ freed ∷ []) 5 (Ended (pos 10))
