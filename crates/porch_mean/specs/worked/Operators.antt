-- Each operator once.
use Rattle.std.specs.Prelude.{ℕ, ℤ, pos, negsuc, true, false, [], ◌∷◌, Some}
use Rattle.porch_types.specs.declared.shapes.Kind.TheVariants.{Char, UChar, Short, UShort, Int, UInt}
use Rattle.porch_values.specs.declared.acts.Act.TheVariants as act
use Rattle.porch_values.specs.declared.acts.Op.{Op}
use Rattle.porch_values.specs.declared.acts.Op.TheVariants.{Add, Sub, Mul, Div, Rem, And, Or, Xor, Shl, Shr}
use Rattle.porch_typed.specs.declared.typed.Comparison.{Comparison}
use Rattle.porch_typed.specs.declared.typed.Comparison.TheVariants.{Less, Greater, LessEqual, GreaterEqual, Equal, NotEqual}
use Rattle.porch_typed.specs.declared.typed.Direction.TheVariants.{Forward, Back}
use Rattle.porch_typed.specs.declared.typed.Operator.TheVariants as operator
use Rattle.porch_typed.specs.declared.typed.Unary.TheVariants.{Plus, Minus, Complement}
use Rattle.porch_typed.specs.Mirror.{Expression, Place}
use Rattle.porch_typed.specs.Mirror as tree
use Rattle.porch_mean.specs.worked.Write.{INT, int, local, join, combine, give, declare, program, Gives, Meets}

-- return e;
abbrev pub is : Expression → ℤ → Type 0
is e z = Gives (program [] [] (give e ∷ []) []) 9 [] 1 z

-- 100 op 7
abbrev pub applied_to_ints : Op → ℕ → Type 0
applied_to_ints op z = is (combine op (int 100) (int 7)) (pos z)

abbrev pub EachOperator : Type 0
EachOperator =
    applied_to_ints Add 107 × applied_to_ints Sub 93 × applied_to_ints Mul 700 × applied_to_ints Div 14 × applied_to_ints Rem 2
    × applied_to_ints And 4 × applied_to_ints Or 103 × applied_to_ints Xor 99

-- 100<<3, 100>>3 and -1>>31
abbrev pub Shifts : Type 0
Shifts =
    is (join (int 100) (operator.Shift Shl Int) (int 3)) (pos 800) × is (join (int 100) (operator.Shift Shr Int) (int 3)) (pos 12)
    × is (join (tree.constant Int (negsuc 0)) (operator.Shift Shr Int) (int 31)) (negsuc 0)

-- 100 op 7, and 7 op 7
abbrev pub compared_ints : Comparison → ℕ → ℕ → Type 0
compared_ints c first second =
    is (join (int 100) (operator.Compare c Int) (int 7)) (pos first) × is (join (int 7) (operator.Compare c Int) (int 7)) (pos second)

abbrev pub EachComparison : Type 0
EachComparison =
    compared_ints Less 0 0 × compared_ints Greater 1 0 × compared_ints LessEqual 0 1 × compared_ints GreaterEqual 1 1 × compared_ints Equal 0 1
    × compared_ints NotEqual 1 0

-- -1<1u: both are converted before they are compared
abbrev pub ConvertsToTheCommonKind : Type 0
ConvertsToTheCommonKind =
    is (join (tree.constant Int (negsuc 0)) (operator.Compare Less UInt) (tree.constant UInt (pos 1))) (pos 0)

-- +7, -7, ~7 and !7; -x where x is the least int
abbrev pub Unaries : Type 0
Unaries =
    is (tree.unary Plus Int (int 7)) (pos 7) × is (tree.unary Minus Int (int 7)) (negsuc 6) × is (tree.unary Complement Int (int 7)) (negsuc 7)
    × is (tree.isnt (int 7)) (pos 0)
    × Meets (program [] [] (give (tree.unary Minus Int (tree.constant Int (negsuc 2147483647))) ∷ []) []) 9 [] 1 act.Overflow

-- (char)200, (unsigned char)-2, (short)40000, (unsigned short)-1 and (int)4294967295u
abbrev pub Conversions : Type 0
Conversions =
    is (tree.conversion Char (int 200)) (negsuc 55) × is (tree.conversion UChar (tree.constant Int (negsuc 1))) (pos 254)
    × is (tree.conversion Short (int 40000)) (negsuc 25535) × is (tree.conversion UShort (tree.constant Int (negsuc 0))) (pos 65535)
    × is (tree.conversion Int (tree.constant UInt (pos 4294967295))) (negsuc 0)

-- int x=5; and then an expression
abbrev pub with_five : Expression → ℤ → Type 0
with_five e z = Gives (program [] (INT ∷ []) (declare 0 (int 5) ∷ give e ∷ []) []) 9 [] 1 z

abbrev pub x : Place
x = tree.variable 0

-- x+=2, x<<=2, x++, ++x, x-- and --x
abbrev pub Assignments : Type 0
Assignments =
    with_five (tree.assign_by INT (operator.Arithmetic Add Int) x (int 2)) (pos 7)
    × with_five (tree.assign_by INT (operator.Shift Shl Int) x (int 2)) (pos 20) × with_five (tree.increment INT false Forward x) (pos 5)
    × with_five (tree.increment INT true Forward x) (pos 6) × with_five (tree.increment INT false Back x) (pos 5)
    × with_five (tree.increment INT true Back x) (pos 4)

-- x=7, x; and 0?1:x
abbrev pub Choices : Type 0
Choices =
    with_five (tree.sequence (tree.assign INT x (int 7)) (tree.with_expression (local 0) tree.no_expressions)) (pos 7)
    × with_five (tree.choice (Some INT) (int 0) (int 1) (local 0)) (pos 5)
