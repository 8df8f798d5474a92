-- Structs: copies with what has no value, members of values that are no places, and initialisers.
use Rattle.std.specs.Prelude.{ℕ, pos, false, [], ◌∷◌, Some}
use Rattle.porch_values.specs.declared.acts.Act.TheVariants as act
use Rattle.porch_values.specs.declared.acts.Op.TheVariants.{Add}
use Rattle.porch_objects.specs.Meaning.{allocated, freed, Ended, Met}
use Rattle.porch_typed.specs.declared.typed.Fill.TheVariants as fill
use Rattle.porch_typed.specs.declared.typed.Operator.TheVariants as operator
use Rattle.porch_typed.specs.Mirror.{Expression, Place, Statement}
use Rattle.porch_typed.specs.Mirror as tree
use Rattle.porch_mean.specs.worked.Write.{both, INT, INT_POINTER, PAIR, int, join, combine, call, comma, at, behind, array, evaluate, show, give, function, global, program, main_of, Means, Gives, Meets}

-- struct s {int x; int a[2];}, and a pointer to one
abbrev pub STRUCT : ℕ
STRUCT = 14

abbrev pub STRUCT_POINTER : ℕ
STRUCT_POINTER = 15

abbrev pub x_of : Place → Place
x_of place = tree.member 0 place

-- `v.a[i]`
abbrev pub element_of : Place → ℕ → Place
element_of place i = tree.pointee (behind (array (tree.member 1 place)) i)

abbrev pub copy : Place → Place → Expression
copy to from = tree.assign STRUCT to (tree.whole STRUCT from)

abbrev pub read : Place → Expression
read place = tree.read INT place

abbrev pub store : Place → ℕ → Statement
store place n = evaluate (tree.assign INT place (int n))

abbrev pub v : ℕ → Place
v n = tree.variable n

-- struct s a, b; a.x=1; b=a; return b.x; where the array has no value
abbrev pub CopiesNoValue : Type 0
CopiesNoValue =
    Gives (program [] (STRUCT ∷ STRUCT ∷ []) (store (x_of (v 0)) 1 ∷ evaluate (copy (v 1) (v 0)) ∷ give (read (x_of (v 1))) ∷ []) []) 9 [] 1 (pos 1)

-- .. return b.a[0];
abbrev pub ReadsWhatWasCopied : Type 0
ReadsWhatWasCopied =
    Meets (program [] (STRUCT ∷ STRUCT ∷ []) (store (x_of (v 0)) 1 ∷ evaluate (copy (v 1) (v 0)) ∷ give (read (element_of (v 1) 0)) ∷ []) []) 9 []
    1 act.Indeterminate

-- a.x=1; a.a[1]=5; c=1?a:b; return (b=c).x+b.a[1];
abbrev pub CopiesByChoice : Type 0
CopiesByChoice =
    Gives
    (program [] (STRUCT ∷ STRUCT ∷ STRUCT ∷ [])
    (store (x_of (v 0)) 1 ∷ store (element_of (v 0) 1) 5
    ∷ evaluate (tree.assign STRUCT (v 2) (tree.choice (Some STRUCT) (int 1) (tree.whole STRUCT (v 0)) (tree.whole STRUCT (v 1))))
    ∷ give (combine Add (tree.member_of INT 0 (copy (v 1) (v 2))) (read (element_of (v 1) 1))) ∷ []) [])
    9 [] 1 (pos 6)

-- return (b=a).x+g(); where x has no value: it is read before g is called
abbrev pub ReadsBeforeTheNextOperand : Type 0
ReadsBeforeTheNextOperand =
    Meets
    (program [] (STRUCT ∷ STRUCT ∷ []) (give (combine Add (tree.member_of INT 0 (copy (v 1) (v 0))) (call 1 [])) ∷ [])
    (function 0 [] (show (int 103) ∷ give (int 1) ∷ []) ∷ []))
    9 [] 1 act.Indeterminate

-- *p; and (void)*p; where p is null
abbrev pub null_struct : Place
null_struct = tree.pointee (tree.read STRUCT_POINTER (tree.global 0))

abbrev pub ReachesAStructThroughNull : Type 0
ReachesAStructThroughNull =
    Meets (main_of (global STRUCT_POINTER [] ∷ []) [] (evaluate (tree.whole STRUCT null_struct) ∷ [])) 9 [] 1 act.Access
    × Meets (main_of (global STRUCT_POINTER [] ∷ []) [] (evaluate (tree.discard (tree.whole STRUCT null_struct)) ∷ [])) 9 [] 1 act.Access

-- struct s *q=malloc(sizeof *q); *q=(free(q),*p); the value is reached before the place that was held is used
abbrev pub ReachesTheValueFirst : Type 0
ReachesTheValueFirst =
    let q : Expression = tree.read STRUCT_POINTER (v 0) in
    Means
    (main_of (global STRUCT_POINTER [] ∷ []) (STRUCT_POINTER ∷ [])
    (tree.declare 0 (tree.value (tree.allocate STRUCT_POINTER false (int 1)))
    ∷ evaluate (tree.assign STRUCT (tree.pointee q) (comma (tree.release q) (tree.whole STRUCT null_struct))) ∷ []))
    both 9 [] (allocated 1 3 ∷ freed ∷ []) 1 (Met act.Access)

-- struct s *q=malloc(sizeof *q); q->a[1]=3; return q->a[1];
abbrev pub ReachesMembers : Type 0
ReachesMembers =
    let q : Place = tree.pointee (tree.read STRUCT_POINTER (v 0)) in
    Means
    (program [] (STRUCT_POINTER ∷ [])
    (tree.declare 0 (tree.value (tree.allocate STRUCT_POINTER false (int 1))) ∷ store (element_of q 1) 3 ∷ give (read (element_of q 1)) ∷ []) [])
    both 9 [] (allocated 1 3 ∷ []) 1 (Ended (pos 3))

-- struct s a={7}, b=a; return b.x+b.a[1];
abbrev pub Initialises : Type 0
Initialises =
    Gives
    (program [] (STRUCT ∷ STRUCT ∷ [])
    (tree.declare 0 (tree.filled ((0, fill.Constant (pos 7)) ∷ [])) ∷ tree.declare 1 (tree.value (tree.whole STRUCT (v 0)))
    ∷ give (combine Add (read (x_of (v 1))) (read (element_of (v 1) 1))) ∷ []) [])
    9 [] 1 (pos 7)

-- struct s a, b=a; return 0; where a has no value
abbrev pub InitialisesByNoValue : Type 0
InitialisesByNoValue =
    Gives
    (program [] (STRUCT ∷ STRUCT ∷ [])
    (tree.declare 0 tree.nothing ∷ tree.declare 1 (tree.value (tree.whole STRUCT (v 0))) ∷ give (int 0) ∷ []) [])
    9 [] 1 (pos 0)

-- int a[2]={4,5}, *p=&a[1]; int main(void){return *p+*(p-1);}
abbrev pub GlobalsAreFilled : Type 0
GlobalsAreFilled =
    let p : Expression = tree.read INT_POINTER (tree.global 1) in
    Gives
    (program (global PAIR ((0, fill.Constant (pos 4)) ∷ (1, fill.Constant (pos 5)) ∷ []) ∷ global INT_POINTER ((0, fill.Address 0 1) ∷ []) ∷ []) []
    (give (combine Add (at p) (at (join p (operator.Back INT_POINTER) (int 1)))) ∷ []) [])
    9 [] 1 (pos 9)
