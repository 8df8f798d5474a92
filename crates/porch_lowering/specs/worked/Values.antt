-- Operators, conversions, choices and assignments.
use Rattle.std.specs.Prelude.{ℕ, pos, negsuc, Bool, true, false, List, [], ◌∷◌, Some}
use Rattle.porch_types.specs.declared.shapes.Kind.TheVariants.{Char, Int, UInt, Long, ULong}
use Rattle.porch_values.specs.declared.acts.Op.TheVariants.{Add, Sub, Mul, Div, Rem, And, Or, Xor, Shl, Shr}
use Rattle.porch_typed.specs.declared.typed.Comparison.TheVariants.{Less, Greater, LessEqual, GreaterEqual, Equal, NotEqual}
use Rattle.porch_typed.specs.declared.typed.Direction.TheVariants.{Forward, Back}
use Rattle.porch_typed.specs.declared.typed.Operator.TheVariants as operator
use Rattle.porch_typed.specs.declared.typed.Unary.TheVariants.{Plus, Minus, Complement}
use Rattle.porch_typed.specs.Mirror.{Expression, Statement, Steps, Place, Program}
use Rattle.porch_typed.specs.Mirror as tree
use Rattle.porch_mean.specs.worked.Write.{INT, LONG, ULONG, int, long, local, join, combine, call, comma, expressions, evaluate, set, give, function_of, program, declare, function}

-- int main(void){ .. } with an int, a char, a long, an unsigned long and an unsigned int
abbrev pub main_with : List Statement → Program
main_with body = program [] (INT ∷ 0 ∷ LONG ∷ ULONG ∷ 5 ∷ INT ∷ []) body []

abbrev pub returning : Expression → Program
returning e = main_with (give e ∷ [])

abbrev pub char_of : ℕ → Expression
char_of v = tree.read 0 (tree.variable v)

abbrev pub long_of : ℕ → Expression
long_of v = tree.read LONG (tree.variable v)

abbrev pub minus : ℕ → Expression
minus n = tree.constant Int (negsuc n)

-- return 7*(9-4)/3%4+(6&3|8^1)+(1<<3>>1);
abbrev pub each_operator : Expression
each_operator =
    tree.row
    (tree.row (combine Mul (int 7) (combine Sub (int 9) (int 4)))
    (tree.with_step (operator.Arithmetic Div Int) (int 3) (tree.with_step (operator.Arithmetic Rem Int) (int 4) tree.no_steps)))
    (tree.with_step (operator.Arithmetic Add Int)
    (combine Or (combine And (int 6) (int 3)) (combine Xor (int 8) (int 1)))
    (tree.with_step (operator.Arithmetic Add Int) (join (join (int 1) (operator.Shift Shl Int) (int 3)) (operator.Shift Shr Int) (int 1)) tree.no_steps))

-- a = 5; c = 3; l = 70000; return a * c + l % a - -c;
abbrev pub mixed_kinds : Program
mixed_kinds =
    main_with
    (set 0 (int 5) ∷ evaluate (tree.assign 0 (tree.variable 1) (tree.conversion Char (int 259)))
    ∷ evaluate (tree.assign LONG (tree.variable 2) (tree.conversion Long (int 70000)))
    ∷ give
    (tree.conversion Int
    (join (join (join (local 0) (operator.Arithmetic Mul Int) (char_of 1)) (operator.Arithmetic Add Long) (join (long_of 2) (operator.Arithmetic Rem Long) (local 0)))
    (operator.Arithmetic Sub Long) (tree.unary Minus Int (char_of 1)))) ∷ [])

-- return (-1 < 1u) + (2 > 1) * 2 + (2 <= 1) * 4 + (2 >= 2) * 8 + (3 == 3) * 16 + (3 != 3) * 32;
abbrev pub weigh : Expression → ℕ → Expression
weigh e n = combine Mul e (int n)

abbrev pub comparisons : Expression
comparisons =
    combine Add (join (minus 0) (operator.Compare Less UInt) (tree.constant UInt (pos 1)))
    (combine Add (weigh (join (int 2) (operator.Compare Greater Int) (int 1)) 2)
    (combine Add (weigh (join (int 2) (operator.Compare LessEqual Int) (int 1)) 4)
    (combine Add (weigh (join (int 2) (operator.Compare GreaterEqual Int) (int 2)) 8)
    (combine Add (weigh (join (int 3) (operator.Compare Equal Int) (int 3)) 16) (weigh (join (int 3) (operator.Compare NotEqual Int) (int 3)) 32)))))

-- return -(+5) + ~2 + !0 + !c;
abbrev pub unaries : Program
unaries =
    main_with
    (evaluate (tree.assign 0 (tree.variable 1) (tree.constant Char (pos 7)))
    ∷ give
    (combine Add (tree.unary Minus Int (tree.unary Plus Int (int 5)))
    (combine Add (tree.unary Complement Int (int 2)) (combine Add (tree.isnt (int 0)) (tree.isnt (char_of 1))))) ∷ [])

-- a = 1; return (a && (a = 0)) + (a || (a = 7)) * 10 + (0 && (a = 9)) * 100 + a * 1000;
abbrev pub assigned : ℕ → ℕ → Expression
assigned v n = tree.assign INT (tree.variable v) (int n)

abbrev pub both_hold : Expression → Expression → Expression
both_hold a b = tree.all_of a (expressions (b ∷ []))

abbrev pub one_holds : Expression → Expression → Expression
one_holds a b = tree.any_of a (expressions (b ∷ []))

abbrev pub decisions : Program
decisions =
    main_with
    (set 0 (int 1)
    ∷ give
    (combine Add (both_hold (local 0) (assigned 0 0))
    (combine Add (weigh (one_holds (local 0) (assigned 0 7)) 10)
    (combine Add (weigh (both_hold (int 0) (assigned 0 9)) 100) (weigh (local 0) 1000)))) ∷ [])

-- a = 3; a = a && c(=4); return a + (l ? 5 : 6) with l = 0;
abbrev pub choices : Program
choices =
    main_with
    (set 0 (int 3) ∷ evaluate (tree.assign 0 (tree.variable 1) (tree.constant Char (pos 4)))
    ∷ evaluate (tree.assign LONG (tree.variable 2) (long 0)) ∷ set 0 (both_hold (local 0) (char_of 1))
    ∷ give (combine Add (local 0) (tree.choice (Some INT) (long_of 2) (int 5) (int 6))) ∷ [])

-- a = (b = 2, b + 1) + (b = 5); return a * 10 + b;
abbrev pub commas : Program
commas =
    main_with
    (set 0 (combine Add (comma (assigned 5 2) (combine Add (local 5) (int 1))) (assigned 5 5))
    ∷ give (combine Add (weigh (local 0) 10) (local 5)) ∷ [])

-- a = 5; c = 127; return a++ + ++a * 100 + a-- * 10000 + (c++, c) ..
abbrev pub counted : ℕ → Bool → Expression
counted v before = tree.increment INT before Forward (tree.variable v)

abbrev pub increments : Program
increments =
    main_with
    (set 0 (int 5) ∷ evaluate (tree.assign 0 (tree.variable 1) (tree.constant Char (pos 127)))
    ∷ evaluate (tree.increment 0 false Forward (tree.variable 1)) ∷ evaluate (tree.increment INT true Back (tree.variable 0))
    ∷ set 5 (tree.increment INT false Back (tree.variable 0))
    ∷ give
    (combine Add (counted 0 false) (combine Add (weigh (counted 0 true) 100) (combine Add (weigh (local 5) 10000) (char_of 1)))) ∷ [])

-- a = 6; a += 3; c = 100; c += a * 10; l = 1; l <<= a; return (a -= 2) + c * 10 + (int)l;
abbrev pub assigned_by : Program
assigned_by =
    main_with
    (set 0 (int 6) ∷ evaluate (tree.assign_by INT (operator.Arithmetic Add Int) (tree.variable 0) (int 3))
    ∷ evaluate (tree.assign 0 (tree.variable 1) (tree.constant Char (pos 100)))
    ∷ evaluate (tree.assign_by 0 (operator.Arithmetic Add Int) (tree.variable 1) (weigh (local 0) 10))
    ∷ evaluate (tree.assign LONG (tree.variable 2) (long 1))
    ∷ evaluate (tree.assign_by LONG (operator.Shift Shl Long) (tree.variable 2) (local 0))
    ∷ give
    (combine Add (tree.assign_by INT (operator.Arithmetic Sub Int) (tree.variable 0) (int 2))
    (combine Add (weigh (char_of 1) 10) (tree.conversion Int (long_of 2)))) ∷ [])

-- unsigned long g(void){} -1+g()==0: both operands are used before one is converted
abbrev pub uses_first : Program
uses_first =
    program [] []
    (evaluate (join (join (minus 0) (operator.Arithmetic Add ULong) (call 1 [])) (operator.Compare Equal ULong) (int 0)) ∷ [])
    (function_of (Some ULONG) 0 [] [] ∷ [])

-- long l = -1; unsigned long u; u = l + u, where u has no value: read before the conversion
abbrev pub reads_first : Program
reads_first =
    main_with
    (evaluate (tree.assign LONG (tree.variable 2) (tree.constant Long (negsuc 0)))
    ∷ evaluate
    (tree.assign ULONG (tree.variable 3) (join (long_of 2) (operator.Arithmetic Add ULong) (tree.read ULONG (tree.variable 3)))) ∷ [])

-- a = -1; u + a; and u += a; where u has no value: it is read before a is converted
abbrev pub reads_left : Expression → Program
reads_left e = main_with (set 0 (minus 0) ∷ evaluate e ∷ [])

abbrev pub missing_left : List Program
missing_left =
    reads_left (join (tree.read ULONG (tree.variable 3)) (operator.Arithmetic Add ULong) (local 0))
    ∷ reads_left (tree.assign_by ULONG (operator.Arithmetic Add ULong) (tree.variable 3) (local 0)) ∷ []

-- -1 + 1ul is Narrow, INT_MAX + 1 Overflow, 1 / 0 Divide, 1 << 32 Shift, and a variable without a value Indeterminate
abbrev pub narrow_sum : Expression
narrow_sum = join (minus 0) (operator.Arithmetic Div ULong) (tree.constant ULong (pos 0))

-- a = (int)(a + 1); where nothing is converted; and the same of a value that is missing, which is used and not dropped
abbrev pub as_int : Expression → Expression
as_int e = tree.conversion Int e

abbrev pub same_kinds : Program
same_kinds = main_with (set 0 (as_int (int 4)) ∷ set 0 (as_int (combine Add (local 0) (as_int (local 0)))) ∷ set 5 (as_int (local 0)) ∷ give (as_int (local 5)) ∷ [])

-- int f(void){} and a statement of main, which has an int
abbrev pub with_missing : Statement → Program
with_missing a = program [] (INT ∷ []) (a ∷ []) (function 0 [] [] ∷ [])

abbrev pub missing_values : List Program
missing_values =
    with_missing (evaluate (as_int (call 1 []))) ∷ with_missing (set 0 (as_int (call 1 []))) ∷ with_missing (set 0 (call 1 []))
    ∷ with_missing (declare 0 (tree.choice (Some INT) (int 1) (as_int (call 1 [])) (int 2)))
    ∷ with_missing (give (as_int (comma (int 1) (call 1 [])))) ∷ []

abbrev pub value_programs : List Program
value_programs =
    returning each_operator ∷ mixed_kinds ∷ returning comparisons ∷ unaries ∷ decisions ∷ choices ∷ commas ∷ increments ∷ assigned_by
    ∷ uses_first ∷ reads_first ∷ main_with (evaluate narrow_sum ∷ []) ∷ returning (combine Add (int 2147483647) (int 1))
    ∷ returning (combine Div (int 1) (int 0)) ∷ returning (join (int 1) (operator.Shift Shl Int) (int 32))
    ∷ returning (combine Add (local 0) (int 1)) ∷ main_with (evaluate (local 0) ∷ []) ∷ []
