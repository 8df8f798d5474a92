-- Operands and arguments from left to right.
use Rattle.std.specs.Prelude.{ℕ, pos, List, [], ◌∷◌, codes, Some, true, false}
use Rattle.porch_types.specs.declared.shapes.Kind.TheVariants.{Int}
use Rattle.porch_values.specs.declared.acts.Op.TheVariants.{Add, Mul}
use Rattle.porch_typed.specs.declared.typed.Direction.TheVariants.{Forward}
use Rattle.porch_typed.specs.declared.typed.Operator.TheVariants as operator
use Rattle.porch_typed.specs.Mirror.{Expression, Place, Statement, Function}
use Rattle.porch_typed.specs.Mirror as tree
use Rattle.porch_mean.specs.worked.Write.{INT, int, local, join, combine, call, set, show, give, declare, function, global, program, Gives}

-- int t(int x){putchar('0'+x); return x;}, which is function 1
abbrev pub shown_digit : Function
shown_digit = function 1 (INT ∷ []) (show (combine Add (int 48) (local 0)) ∷ give (local 0) ∷ [])

abbrev pub t : ℕ → Expression
t n = call 1 (int n ∷ [])

-- an element of int a[2], which is global 0
abbrev pub element : Expression → Place
element i = tree.pointee (join (tree.first 8 (tree.global 0)) (operator.Forward 8) i)

abbrev pub in_order : Expression → ℕ → List ℕ → Type 0
in_order e turns output = Gives (program (global 9 [] ∷ []) [] (tree.evaluate e ∷ give (int 0) ∷ []) (shown_digit ∷ [])) 9 output turns (pos 0)

-- a[t(1)]=t(0)
abbrev pub Assigns : Type 0
Assigns = in_order (tree.assign INT (element (t 1)) (t 0)) 3 (codes "10")

-- a[t(1)]+=t(0)
abbrev pub AssignsBy : Type 0
AssignsBy = in_order (tree.assign_by INT (operator.Arithmetic Add Int) (element (t 1)) (t 0)) 3 (codes "10")

-- t(1)+t(2)*t(3)
abbrev pub Operates : Type 0
Operates = in_order (combine Add (t 1) (combine Mul (t 2) (t 3))) 4 (codes "123")

-- t(0)&&t(1), t(1)||t(2), t(1)?t(2):t(3)
abbrev pub Decides : Type 0
Decides =
    in_order (tree.all_of (t 0) (tree.with_expression (t 1) tree.no_expressions)) 2 (codes "0")
    × in_order (tree.any_of (t 1) (tree.with_expression (t 2) tree.no_expressions)) 2 (codes "1")
    × in_order (tree.choice (Some INT) (t 1) (t 2) (t 3)) 3 (codes "12")

-- i = i++ + ++i, from 0
abbrev pub Increments : Type 0
Increments =
    Gives
    (program [] (INT ∷ [])
    (declare 0 (int 0)
    ∷ set 0 (combine Add (tree.increment INT false Forward (tree.variable 0)) (tree.increment INT true Forward (tree.variable 0)))
    ∷ give (local 0) ∷ []) [])
    9 [] 1 (pos 2)
