-- The words that the worked programs are written in: a list of types that all of them have, small functions that build
-- typed trees, and what is said of a program.
use Rattle.std.specs.Prelude.{ℕ, ℤ, pos, ◌≡◌, List, [], ◌∷◌, ◌++◌, codes, Option, Some, true, false, refl}
use Rattle.porch_types.specs.declared.shapes.Kind.TheVariants.{Int, Long}
use Rattle.porch_types.specs.declared.shapes.Ty.{Ty}
use Rattle.porch_types.specs.declared.shapes.Ty.TheVariants.{Pointer, Array, Struct}
use Rattle.porch_types.specs.Leaves.{kind_types}
use Rattle.porch_values.specs.declared.acts.Act.{Act}
use Rattle.porch_values.specs.declared.acts.Op.{Op}
use Rattle.porch_values.specs.declared.widths.Widths.{Widths}
use Rattle.porch_objects.specs.Meaning.{without_input, Mark, Ending, Ended, Met}
use Rattle.porch_typed.specs.declared.typed.Comparison.{Comparison}
use Rattle.porch_typed.specs.declared.typed.Comparison.TheVariants.{Less, Equal}
use Rattle.porch_typed.specs.declared.typed.Direction.TheVariants.{Forward}
use Rattle.porch_typed.specs.declared.typed.Fill.{Fill}
use Rattle.porch_typed.specs.declared.typed.GlobalVariable.{GlobalVariable}
use Rattle.porch_typed.specs.declared.typed.Operator.{Operator}
use Rattle.porch_typed.specs.declared.typed.Operator.TheVariants as operator
use Rattle.porch_typed.specs.Mirror.{Expression, Expressions, Steps, Place, Print, Prints, Initial, Statement, Statements, SwitchEntry, SwitchEntries, Function, Program}
use Rattle.porch_typed.specs.Mirror as tree
use Rattle.porch_mean.specs.Mean.{mean}

-- the widths of long: 64 bits, 32 bits, and both at once
abbrev pub wide : Widths
wide = record { narrow = false; wide = true; some = refl }

abbrev pub narrow : Widths
narrow = record { narrow = true; wide = false; some = refl }

abbrev pub both : Widths
both = record { narrow = true; wide = true; some = refl }

-- The types behind the kinds, by their numbers.
abbrev pub types : List Ty
types =
    kind_types ++
    Pointer 4  -- 8: int *
    ∷ Array 4 2  -- 9: int[2]
    ∷ Array 9 2  -- 10: int[2][2]
    ∷ Pointer 9  -- 11: int (*)[2]
    ∷ Pointer 0  -- 12: char *
    ∷ Array 0 3  -- 13: char[3]
    ∷ Struct (4 ∷ 9 ∷ [])  -- 14: struct {int x; int a[2];}
    ∷ Pointer 14  -- 15: a pointer to it
    ∷ Pointer 8  -- 16: int **
    ∷ Struct (4 ∷ 8 ∷ [])  -- 17: struct {int x; int *p;}
    ∷ Pointer 17  -- 18: a pointer to it
    ∷ Pointer 20  -- 19: a pointer to the next
    ∷ Struct (4 ∷ 19 ∷ [])  -- 20: struct node {int v; struct node *next;}
    ∷ []

abbrev pub INT : ℕ
INT = 4

abbrev pub LONG : ℕ
LONG = 6

abbrev pub ULONG : ℕ
ULONG = 7

-- int *
abbrev pub INT_POINTER : ℕ
INT_POINTER = 8

-- int[2]
abbrev pub PAIR : ℕ
PAIR = 9

-- int[2][2]
abbrev pub SQUARE : ℕ
SQUARE = 10

-- lists of the tree

abbrev pub expressions : List Expression → Expressions
expressions [] = tree.no_expressions
expressions (e ∷ es) = tree.with_expression e (expressions es)

abbrev pub statements : List Statement → Statements
statements [] = tree.no_statements
statements (a ∷ more) = tree.with_statement a (statements more)

abbrev pub entries : List SwitchEntry → SwitchEntries
entries [] = tree.no_entries
entries (x ∷ xs) = tree.with_entry x (entries xs)

abbrev pub prints : List Print → Prints
prints [] = tree.no_prints
prints (x ∷ xs) = tree.with_print x (prints xs)

-- expressions

-- a constant of int
abbrev pub int : ℕ → Expression
int n = tree.constant Int (pos n)

abbrev pub long : ℕ → Expression
long n = tree.constant Long (pos n)

-- variable v of this function, an int
abbrev pub local : ℕ → Expression
local v = tree.read INT (tree.variable v)

-- one operator
abbrev pub join : Expression → Operator → Expression → Expression
join a op b = tree.row a (tree.with_step op b tree.no_steps)

-- an operator of int
abbrev pub combine : Op → Expression → Expression → Expression
combine op a b = join a (operator.Arithmetic op Int) b

abbrev pub call : ℕ → List Expression → Expression
call function es = tree.call function (expressions es)

abbrev pub comma : Expression → Expression → Expression
comma a b = tree.sequence a (tree.with_expression b tree.no_expressions)

-- `a < b`
abbrev pub less : Expression → Expression → Expression
less a b = join a (operator.Compare Less Int) b

-- `a == b`
abbrev pub same : Expression → Expression → Expression
same a b = join a (operator.Compare Equal Int) b

-- `v++` of variable v, an int
abbrev pub step : ℕ → Expression
step v = tree.increment INT false Forward (tree.variable v)

-- pointers to int, and arrays

abbrev pub pointer_in : Place → Expression
pointer_in place = tree.read INT_POINTER place

-- `*p`
abbrev pub at : Expression → Expression
at p = tree.read INT (tree.pointee p)

-- `&v` of variable v, an int
abbrev pub address_of : ℕ → Expression
address_of v = tree.address INT_POINTER (tree.variable v)

-- `p + n`
abbrev pub behind : Expression → ℕ → Expression
behind p n = join p (operator.Forward INT_POINTER) (int n)

-- an array of ints as a pointer to its first element
abbrev pub array : Place → Expression
array place = tree.first INT_POINTER place

-- `m[i]` of a square as a pointer to its first element
abbrev pub inner : Place → ℕ → Expression
inner m i = array (tree.pointee (join (tree.first 11 m) (operator.Forward 11) (int i)))

-- two pointers to int compared
abbrev pub compare : Comparison → Expression → Expression → Expression
compare c p q = join p (operator.ComparePointers c INT_POINTER) q

-- statements

abbrev pub evaluate : Expression → Statement
evaluate e = tree.evaluate e

abbrev pub block : List Statement → Statement
block all = tree.block (statements all)

-- variable v, an int, is given a value
abbrev pub set : ℕ → Expression → Statement
set v e = tree.evaluate (tree.assign INT (tree.variable v) e)

abbrev pub show : Expression → Statement
show e = tree.evaluate (tree.put_character e)

abbrev pub give : Expression → Statement
give e = tree.give (Some e)

-- int v = e;
abbrev pub declare : ℕ → Expression → Statement
declare v e = tree.declare v (tree.value e)

-- programs

-- a function that gives an int; so many of its variables are parameters
abbrev pub function : (params : ℕ) → List ℕ → List Statement → Function
function params variables body =
    record { name = codes "f"; result = Some INT; params = params; variables = variables; body = statements body; tokens = 1000 }

abbrev pub global : ℕ → List (ℕ × Fill) → GlobalVariable
global ty fills = record { ty = ty; fills = fills }

-- one with another result, or none
abbrev pub function_of : Option ℕ → (params : ℕ) → List ℕ → List Statement → Function
function_of result params variables body =
    record { name = codes "f"; result = result; params = params; variables = variables; body = statements body; tokens = 1000 }

-- A program: its globals, the variables and the body of main, which is function 0, and the other functions. The meaning
-- asks neither for names and numbers of tokens nor for the pointer types of the types.
abbrev pub program : List GlobalVariable → List ℕ → List Statement → List Function → Program
program globals variables body functions =
    record { types = types; pointers = []; globals = globals; functions = function 0 variables body ∷ functions; main = 0 }

-- a program that is main alone, and returns 0 behind these statements
abbrev pub main_of : List GlobalVariable → List ℕ → List Statement → Program
main_of globals variables body = program globals variables (body ++ give (int 0) ∷ []) []

-- what is said of a program in a long of these widths, within n turns
abbrev pub Means : Program → Widths → (n : ℕ) → (output : List ℕ) → List Mark → (turns : ℕ) → Ending → Type 0
Means p widths n output marks turns ending =
    mean p (without_input widths) n ≡ record { output = output; marks = marks; turns = turns; ending = ending }

-- It ends with a value under both widths, without marks.
abbrev pub Gives : Program → (n : ℕ) → (output : List ℕ) → (turns : ℕ) → ℤ → Type 0
Gives p n output turns z = Means p both n output [] turns (Ended z)

-- It meets an act under both widths, without marks.
abbrev pub Meets : Program → (n : ℕ) → (output : List ℕ) → (turns : ℕ) → Act → Type 0
Meets p n output turns a = Means p both n output [] turns (Met a)
