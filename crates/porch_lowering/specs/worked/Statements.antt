-- Loops, switches, calls and what is shown.
use Rattle.std.specs.Prelude.{ℕ, pos, negsuc, true, List, [], ◌∷◌, codes, Some, None}
use Rattle.porch_types.specs.declared.shapes.Kind.TheVariants.{Int}
use Rattle.porch_values.specs.declared.acts.Op.TheVariants.{Add, Sub, Mul}
use Rattle.porch_typed.specs.declared.typed.Conversion.TheVariants as conversion
use Rattle.porch_typed.specs.Mirror.{Expression, Statement, SwitchEntry, Program}
use Rattle.porch_typed.specs.Mirror as tree
use Rattle.porch_mean.specs.worked.Write.{INT, INT_POINTER, int, local, combine, call, comma, less, same, step, at, address_of, pointer_in, block, entries, prints, evaluate, set, show, give, declare, function, function_of, global, program}
use Rattle.porch_mean.specs.worked.Statements.{choose, note}
use Rattle.porch_mean.specs.worked.Calls.{other_for_less, with_nothing_given, f, with_address_given}
use Rattle.porch_mean.specs.worked.Shown.{TEXT_POINTER, giving, ab, abc, t, each_conversion}

-- int i=0, n=0; then a statement, and return n;
abbrev pub noting : Statement → Program
noting a = program [] (INT ∷ INT ∷ []) (declare 0 (int 0) ∷ declare 1 (int 0) ∷ a ∷ give (local 1) ∷ []) []

-- while(i<5){i++; if(i==2) continue; if(i==4) break; n=n*10+i;}
abbrev pub while_loop : Statement
while_loop =
    tree.repeat_while (less (local 0) (int 5))
    (block (evaluate (step 0) ∷ choose (same (local 0) (int 2)) tree.go_round ∷ choose (same (local 0) (int 4)) tree.leave_loop ∷ note ∷ []))

-- do {i++; if(i<3) continue; n=n*10+i;} while(i<4);
abbrev pub do_loop : Statement
do_loop = tree.repeat_until (block (evaluate (step 0) ∷ choose (less (local 0) (int 3)) tree.go_round ∷ note ∷ [])) (less (local 0) (int 4))

-- for(i=1;i<5;i++){if(i==3) continue; n=n*10+i;}
abbrev pub for_loop : Statement
for_loop =
    tree.repeat_for (Some (tree.assign INT (tree.variable 0) (int 1))) (Some (less (local 0) (int 5))) (Some (step 0))
    (block (choose (same (local 0) (int 3)) tree.go_round ∷ note ∷ []))

-- for(;;) if(i++==2) break;
abbrev pub for_ever : Statement
for_ever = tree.repeat_for None None None (choose (same (step 0) (int 2)) tree.leave_loop)

-- switch(i){case 1: n=n*10+1; case 2: n=n*10+2; break; default: n=n*10+3; case 4: n=n*10+4;}
abbrev pub times_ten : ℕ → SwitchEntry
times_ten n = tree.statement (set 1 (combine Add (combine Mul (local 1) (int 10)) (int n)))

abbrev pub switching : Statement
switching =
    tree.switch Int (local 0)
    (entries
    (tree.case (pos 1) ∷ times_ten 1 ∷ tree.case (pos 2) ∷ times_ten 2 ∷ tree.statement tree.leave_loop ∷ tree.default ∷ times_ten 3
    ∷ tree.case (pos 4) ∷ times_ten 4 ∷ []))

-- while(i<5){switch(i++){case 1: case 3: continue;} n=n*10+i;} with the switch before
abbrev pub switches : Statement
switches =
    tree.repeat_while (less (local 0) (int 6))
    (block
    (switching ∷ tree.switch Int (step 0) (entries (tree.case (pos 1) ∷ tree.case (pos 3) ∷ tree.statement tree.go_round ∷ []))
    ∷ set 1 (combine Add (local 1) (int 1)) ∷ []))

-- while(1) and its end
abbrev pub endless : Statement
endless = tree.repeat_while (int 1) (block [])

abbrev pub loop_programs : List Program
loop_programs =
    noting while_loop ∷ noting do_loop ∷ noting for_loop ∷ noting for_ever ∷ noting switches ∷ noting endless
    ∷ noting (tree.choose (int 0) note (set 1 (int 1))) ∷ noting (tree.repeat_while (local 0) (declare 1 (local 1))) ∷ []

-- int f(int n){if(n<2) return 1; return n*f(n-1);} int main(void){return f(3);}
abbrev pub factorial : Program
factorial =
    program [] [] (give (call 1 (int 3 ∷ [])) ∷ [])
    (function 1 (INT ∷ [])
    (choose (less (local 0) (int 2)) (give (int 1)) ∷ give (combine Mul (local 0) (call 1 (combine Sub (local 0) (int 1) ∷ []))) ∷ []) ∷ [])

-- two functions that call each other
abbrev pub even_and_odd : Program
even_and_odd = program [] [] (give (call 1 (int 3 ∷ [])) ∷ []) (other_for_less 2 1 ∷ other_for_less 1 0 ∷ [])

-- int n; int main(void){if(n) return; n=1; return main()+3;}
abbrev pub main_again : Program
main_again =
    program (global INT [] ∷ []) []
    (choose (tree.read INT (tree.global 0)) (tree.give None) ∷ evaluate (tree.assign INT (tree.global 0) (int 1))
    ∷ give (combine Add (call 0 []) (int 3)) ∷ []) []

-- void g(int *p){*p = 7;} int main(void){int x; x = 1; 1 ? g(&x) : g(&x); return x;}
abbrev pub without_result : Program
without_result =
    program [] (INT ∷ [])
    (set 0 (int 1) ∷ evaluate (tree.choice None (int 1) (call 1 (address_of 0 ∷ [])) (call 1 (address_of 0 ∷ []))) ∷ give (local 0) ∷ [])
    (function_of None 1 (INT_POINTER ∷ []) (evaluate (tree.assign INT (tree.pointee (pointer_in (tree.variable 0))) (int 7)) ∷ []) ∷ [])

abbrev pub call_programs : List Program
call_programs =
    factorial ∷ even_and_odd ∷ main_again ∷ without_result ∷ program [] [] [] [] ∷ with_nothing_given (evaluate f)
    ∷ with_nothing_given (evaluate (tree.discard f)) ∷ with_nothing_given (evaluate (tree.choice (Some INT) (int 1) f (int 0)))
    ∷ with_nothing_given (give f) ∷ with_nothing_given (evaluate (tree.isnt f)) ∷ with_nothing_given (tree.switch Int f tree.no_entries)
    ∷ with_nothing_given (show f) ∷ with_nothing_given (give (tree.choice (Some INT) (int 1) f (int 0)))
    ∷ program [] [] (evaluate (tree.address INT_POINTER (tree.pointee f)) ∷ []) (function_of (Some INT_POINTER) 0 [] [] ∷ [])
    ∷ with_address_given (evaluate f) ∷ with_address_given (give (at f)) ∷ []

-- printf("a%s%d", p, (free(p), 1)), where p points to a block of two chars
abbrev pub ended_text : Program
ended_text =
    program [] (TEXT_POINTER ∷ [])
    (evaluate (tree.assign TEXT_POINTER (tree.variable 0) (tree.allocate TEXT_POINTER true (int 2)))
    ∷ evaluate
    (tree.print
    (prints
    (tree.bytes (codes "a") ∷ tree.text (tree.read TEXT_POINTER (tree.variable 0))
    ∷ tree.number conversion.Decimal (comma (tree.release (tree.read TEXT_POINTER (tree.variable 0))) (int 1)) ∷ []))) ∷ []) []

-- printf("a\0b%s%c", t, 'x') gives 6
abbrev pub mixed_text : Expression
mixed_text = tree.print (prints (tree.bytes (97 ∷ 0 ∷ 98 ∷ []) ∷ tree.text t ∷ tree.number conversion.Character (int 120) ∷ []))

abbrev pub shown_programs : List Program
shown_programs =
    giving [] each_conversion ∷ giving [] (tree.put_character (int 511)) ∷ giving [] (tree.put_character (tree.constant Int (negsuc 0)))
    ∷ giving ab (tree.put_text t) ∷ giving [] (tree.put_literal (97 ∷ 98 ∷ 0 ∷ 99 ∷ [])) ∷ giving abc (tree.put_text t)
    ∷ giving ab mixed_text ∷ giving [] (tree.print (prints (tree.bytes (codes "ab") ∷ []))) ∷ ended_text ∷ []
