-- Calls: arguments, values that are given or not, recursion, and objects that end with their call.
use Rattle.std.specs.Prelude.{ℕ, pos, negsuc, [], ◌∷◌, Some, None}
use Rattle.porch_types.specs.declared.shapes.Kind.TheVariants.{Char, Int, ULong}
use Rattle.porch_values.specs.declared.acts.Act.TheVariants as act
use Rattle.porch_values.specs.declared.acts.Op.TheVariants.{Add, Sub, Mul, Div}
use Rattle.porch_typed.specs.declared.typed.Comparison.TheVariants.{Equal}
use Rattle.porch_typed.specs.declared.typed.Operator.TheVariants as operator
use Rattle.porch_typed.specs.Mirror.{Expression, Statement, Function, Program}
use Rattle.porch_typed.specs.Mirror as tree
use Rattle.porch_mean.specs.worked.Write.{INT, ULONG, INT_POINTER, int, local, join, combine, call, pointer_in, at, address_of, less, block, evaluate, show, give, declare, function, function_of, global, program, Gives, Meets}

abbrev pub choose : Expression → Statement → Statement
choose e then = tree.choose e then (block [])

-- int f(int n){if(n<2) return 1; return n*f(n-1);} int main(void){return f(3);}
abbrev pub Recurses : Type 0
Recurses =
    Gives
    (program [] [] (give (call 1 (int 3 ∷ [])) ∷ [])
    (function 1 (INT ∷ [])
    (choose (less (local 0) (int 2)) (give (int 1))
    ∷ give (combine Mul (local 0) (call 1 (combine Sub (local 0) (int 1) ∷ []))) ∷ []) ∷ []))
    9 [] 4 (pos 6)

-- int even(int n){if(n) return odd(n-1); return 1;} int odd(int n){if(n) return even(n-1); return 0;}
abbrev pub other_for_less : ℕ → ℕ → Function
other_for_less other last =
    function 1 (INT ∷ []) (choose (local 0) (give (call other (combine Sub (local 0) (int 1) ∷ []))) ∷ give (int last) ∷ [])

-- int main(void){return even(3);}
abbrev pub CallsEachOther : Type 0
CallsEachOther = Gives (program [] [] (give (call 1 (int 3 ∷ [])) ∷ []) (other_for_less 2 1 ∷ other_for_less 1 0 ∷ [])) 9 [] 5 (pos 0)

-- int n; int main(void){if(n) return; n=1; return main()+3;}
abbrev pub MainWithoutAValueGivesZero : Type 0
MainWithoutAValueGivesZero =
    Gives
    (program (global INT [] ∷ []) []
    (choose (tree.read INT (tree.global 0)) (tree.give None) ∷ evaluate (tree.assign INT (tree.global 0) (int 1))
    ∷ give (combine Add (call 0 []) (int 3)) ∷ []) [])
    9 [] 2 (pos 3)

-- int main(void){}
abbrev pub MainMayEnd : Type 0
MainMayEnd = Gives (program [] [] [] []) 9 [] 1 (pos 0)

-- int f(void){} with a statement in main
abbrev pub with_nothing_given : Statement → Program
with_nothing_given a = program [] [] (a ∷ []) (function 0 [] [] ∷ [])

abbrev pub f : Expression
f = call 1 []

-- f(); and (void)f(); and 1?f():0; are no acts
abbrev pub DropsNoValue : Type 0
DropsNoValue =
    Gives (with_nothing_given (evaluate f)) 9 [] 2 (pos 0) × Gives (with_nothing_given (evaluate (tree.discard f))) 9 [] 2 (pos 0)
    × Gives (with_nothing_given (evaluate (tree.choice (Some INT) (int 1) f (int 0)))) 9 [] 2 (pos 0)

-- return f(); !f(); switch(f()){} putchar(f());
abbrev pub UsesNoValue : Type 0
UsesNoValue =
    Meets (with_nothing_given (give f)) 9 [] 2 act.Indeterminate × Meets (with_nothing_given (evaluate (tree.isnt f))) 9 [] 2 act.Indeterminate
    × Meets (with_nothing_given (tree.switch Int f tree.no_entries)) 9 [] 2 act.Indeterminate
    × Meets (with_nothing_given (show f)) 9 [] 2 act.Indeterminate

-- int *f(void){} &*f();
abbrev pub StarUsesItsOperand : Type 0
StarUsesItsOperand =
    Meets
    (program [] [] (evaluate (tree.address INT_POINTER (tree.pointee f)) ∷ []) (function_of (Some INT_POINTER) 0 [] [] ∷ []))
    9 [] 2 act.Indeterminate

-- unsigned long g(void){} -1+g()==0: both operands are used before one is converted
abbrev pub UsesBeforeConversions : Type 0
UsesBeforeConversions =
    Meets
    (program [] []
    (evaluate (join (join (tree.constant Int (negsuc 0)) (operator.Arithmetic Add ULong) f) (operator.Compare Equal ULong) (int 0)) ∷ [])
    (function_of (Some ULONG) 0 [] [] ∷ []))
    9 [] 2 act.Indeterminate

-- int *f(void){int x=1; return &x;} with a statement in main
abbrev pub with_address_given : Statement → Program
with_address_given a =
    program [] [] (a ∷ []) (function_of (Some INT_POINTER) 0 (INT ∷ []) (declare 0 (int 1) ∷ give (address_of 0) ∷ []) ∷ [])

-- f(); is no act, and return *f(); is one
abbrev pub ObjectsEndWithTheirCall : Type 0
ObjectsEndWithTheirCall =
    Gives (with_address_given (evaluate f)) 9 [] 2 (pos 0) × Meets (with_address_given (give (at f))) 9 [] 2 act.Indeterminate

-- int f(int *p){int x=7; if(p) return *p; return f(&x);} int main(void){return f(0);}
abbrev pub CallersObjectsLive : Type 0
CallersObjectsLive =
    Gives
    (program [] [] (give (call 1 (tree.null_pointer INT_POINTER ∷ [])) ∷ [])
    (function 1 (INT_POINTER ∷ INT ∷ [])
    (declare 1 (int 7) ∷ choose (pointer_in (tree.variable 0)) (give (at (pointer_in (tree.variable 0))))
    ∷ give (call 1 (address_of 1 ∷ [])) ∷ []) ∷ []))
    9 [] 3 (pos 7)

-- int f(char a){return a;} int main(void){return f(257);}
abbrev pub ArgumentsAreConverted : Type 0
ArgumentsAreConverted =
    Gives
    (program [] [] (give (call 1 (tree.conversion Char (int 257) ∷ [])) ∷ [])
    (function 1 (0 ∷ []) (give (tree.conversion Int (tree.read 0 (tree.variable 0))) ∷ []) ∷ []))
    9 [] 2 (pos 1)

-- int f(int x){return x;} int main(void){f(1); f(1/0); return 0;}: the second call counts no turn
abbrev pub ArgumentsComeBeforeTheTurn : Type 0
ArgumentsComeBeforeTheTurn =
    Meets
    (program [] [] (evaluate (call 1 (int 1 ∷ [])) ∷ evaluate (call 1 (combine Div (int 1) (int 0) ∷ [])) ∷ [])
    (function 1 (INT ∷ []) (give (local 0) ∷ []) ∷ []))
    9 [] 2 act.Divide
