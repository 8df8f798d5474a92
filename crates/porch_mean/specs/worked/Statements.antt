-- Loops, switches, and declarations that are reached again.
use Rattle.std.specs.Prelude.{ℕ, pos, List, [], ◌∷◌, codes, Some, None}
use Rattle.porch_types.specs.declared.shapes.Kind.TheVariants.{Int}
use Rattle.porch_values.specs.declared.acts.Act.TheVariants as act
use Rattle.porch_values.specs.declared.acts.Op.TheVariants.{Add, Mul}
use Rattle.porch_typed.specs.Mirror.{Expression, Statement, SwitchEntry}
use Rattle.porch_typed.specs.Mirror as tree
use Rattle.porch_mean.specs.worked.Write.{INT, int, local, combine, less, same, step, block, entries, evaluate, set, show, give, declare, program, main_of, Gives, Meets}

abbrev pub choose : Expression → Statement → Statement
choose e then = tree.choose e then (block [])

-- n=n*10+i, where i is variable 0 and n variable 1
abbrev pub note : Statement
note = set 1 (combine Add (combine Mul (local 1) (int 10)) (local 0))

-- int i=0, n=0; then a statement, and return n;
abbrev pub noting : Statement → ℕ → ℕ → Type 0
noting a turns z =
    Gives (program [] (INT ∷ INT ∷ []) (declare 0 (int 0) ∷ declare 1 (int 0) ∷ a ∷ give (local 1) ∷ []) []) 9 [] turns (pos z)

-- while(i<5){i++; if(i==2) continue; if(i==4) break; n=n*10+i;}
abbrev pub While : Type 0
While =
    noting
    (tree.repeat_while (less (local 0) (int 5))
    (block
    (evaluate (step 0) ∷ choose (same (local 0) (int 2)) tree.go_round ∷ choose (same (local 0) (int 4)) tree.leave_loop ∷ note ∷ [])))
    5 13

-- do {i++; if(i<3) continue; n=n*10+i;} while(i<4): continue goes on at the condition
abbrev pub Do : Type 0
Do =
    noting
    (tree.repeat_until (block (evaluate (step 0) ∷ choose (less (local 0) (int 3)) tree.go_round ∷ note ∷ [])) (less (local 0) (int 4)))
    5 34

-- do break; while(1);
abbrev pub DoLeaves : Type 0
DoLeaves = noting (tree.repeat_until tree.leave_loop (int 1)) 2 0

-- for(i=1;i<5;i++){if(i==3) continue; n=n*10+i;}: continue goes on at i++
abbrev pub For : Type 0
For =
    noting
    (tree.repeat_for (Some (tree.assign INT (tree.variable 0) (int 1))) (Some (less (local 0) (int 5))) (Some (step 0))
    (block (choose (same (local 0) (int 3)) tree.go_round ∷ note ∷ [])))
    5 124

-- for(;;) if(i++==2) break;
abbrev pub ForEver : Type 0
ForEver = noting (tree.repeat_for None None None (choose (same (step 0) (int 2)) tree.leave_loop)) 4 0

-- while(0); counts no turn
abbrev pub NoRound : Type 0
NoRound = noting (tree.repeat_while (int 0) (block [])) 1 0

-- if(0) n=n*10+i; else n=1;
abbrev pub Else : Type 0
Else = noting (tree.choose (int 0) note (set 1 (int 1))) 1 1

-- while(1) while(1) return 7;
abbrev pub ReturnLeavesAll : Type 0
ReturnLeavesAll =
    Gives (program [] [] (tree.repeat_while (int 1) (tree.repeat_while (int 1) (give (int 7))) ∷ []) []) 9 [] 3 (pos 7)

abbrev pub shows : ℕ → SwitchEntry
shows byte = tree.statement (show (int byte))

-- case 1: putchar('1'); default: putchar('d'); case 3: putchar('3'); break; case 4: putchar('4');
abbrev pub falling : List SwitchEntry
falling =
    tree.case (pos 1) ∷ shows 49 ∷ tree.default ∷ shows 100 ∷ tree.case (pos 3) ∷ shows 51 ∷ tree.statement tree.leave_loop
    ∷ tree.case (pos 4) ∷ shows 52 ∷ []

-- for(;i<5;i++) switch(i){..}
abbrev pub FallsThrough : Type 0
FallsThrough =
    Gives
    (main_of [] (INT ∷ [])
    (declare 0 (int 0) ∷ tree.repeat_for None (Some (less (local 0) (int 5))) (Some (step 0)) (tree.switch Int (local 0) (entries falling)) ∷ []))
    9 (codes "d31d3d334") 6 (pos 0)

-- switch(2){putchar('n'); case 2: putchar('y');} switch(9){putchar('n'); case 2: putchar('n');}
abbrev pub BeginsAtTheLabel : Type 0
BeginsAtTheLabel =
    Gives
    (main_of [] []
    (tree.switch Int (int 2) (entries (shows 110 ∷ tree.case (pos 2) ∷ shows 121 ∷ []))
    ∷ tree.switch Int (int 9) (entries (shows 110 ∷ tree.case (pos 2) ∷ shows 110 ∷ [])) ∷ []))
    9 (codes "y") 1 (pos 0)

-- for(;i<3;i++){switch(i){case 0: continue; case 1: break;} n=n*10+i;}: continue belongs to the loop
abbrev pub ContinueBelongsToTheLoop : Type 0
ContinueBelongsToTheLoop =
    noting
    (tree.repeat_for None (Some (less (local 0) (int 3))) (Some (step 0))
    (block
    (tree.switch Int (local 0)
    (entries (tree.case (pos 0) ∷ tree.statement tree.go_round ∷ tree.case (pos 1) ∷ tree.statement tree.leave_loop ∷ [])) ∷ note ∷ [])))
    4 12

-- int i; for(i=0;i<2;i++){int once; if(i==0) once=5; once;}
abbrev pub DeclarationsTakeTheValueAway : Type 0
DeclarationsTakeTheValueAway =
    Meets
    (main_of [] (INT ∷ INT ∷ [])
    (tree.repeat_for (Some (tree.assign INT (tree.variable 0) (int 0))) (Some (less (local 0) (int 2))) (Some (step 0))
    (block (tree.declare 1 tree.nothing ∷ choose (same (local 0) (int 0)) (set 1 (int 5)) ∷ evaluate (local 1) ∷ [])) ∷ []))
    9 [] 3 act.Indeterminate
