-- Where a run stops, and the marks that it makes.
use Rattle.std.specs.Prelude.{ℕ, pos, true, false, List, [], ◌∷◌, codes, Some, None}
use Rattle.porch_objects.specs.Meaning.{reached, allocated, freed, Ended, Paused}
use Rattle.porch_typed.specs.declared.typed.Comparison.TheVariants.{Equal}
use Rattle.porch_typed.specs.declared.typed.Operator.TheVariants as operator
use Rattle.porch_typed.specs.Mirror.{Expression, Statement, Function, Program}
use Rattle.porch_typed.specs.Mirror as tree
use Rattle.porch_mean.specs.worked.Write.{both, INT, INT_POINTER, int, local, join, call, comma, less, step, block, pointer_in, evaluate, show, give, function, function_of, program, main_of, Means, Gives}

abbrev pub Pauses : Program → (n : ℕ) → List ℕ → Type 0
Pauses p n output = Means p both n output [] n Paused

-- int f(int x){return x;}
abbrev pub f : Function
f = function 1 (INT ∷ []) (give (local 0) ∷ [])

-- f((putchar('a'),1)); f((putchar('b'),2));
abbrev pub two_calls : Program
two_calls =
    program [] []
    (evaluate (call 1 (comma (tree.put_character (int 97)) (int 1) ∷ []))
    ∷ evaluate (call 1 (comma (tree.put_character (int 98)) (int 2) ∷ [])) ∷ []) (f ∷ [])

-- a call's arguments come before it is paused; main is a call as well
abbrev pub PausesBeforeACall : Type 0
PausesBeforeACall = Pauses two_calls 0 [] × Pauses two_calls 1 (codes "a") × Pauses two_calls 2 (codes "ab") × Gives two_calls 3 (codes "ab") 3 (pos 0)

-- while(putchar('c'));
abbrev pub PausesBehindTheCondition : Type 0
PausesBehindTheCondition =
    Pauses (program [] [] (tree.repeat_while (tree.put_character (int 99)) (block []) ∷ []) []) 3 (codes "ccc")

-- do putchar('d'); while(1);
abbrev pub PausesBeforeTheBody : Type 0
PausesBeforeTheBody = Pauses (program [] [] (tree.repeat_until (show (int 100)) (int 1) ∷ []) []) 3 (codes "dd")

-- for(i=0;i<3;i++) f(i); return i;
abbrev pub CountsCallsAndRounds : Type 0
CountsCallsAndRounds =
    Gives
    (program [] (INT ∷ [])
    (tree.repeat_for (Some (tree.assign INT (tree.variable 0) (int 0))) (Some (less (local 0) (int 3))) (Some (step 0))
    (evaluate (call 1 (local 0 ∷ []))) ∷ give (local 0) ∷ []) (f ∷ []))
    7 [] 7 (pos 3)

-- int *p=malloc(3*sizeof(int)); checkpoint(); free(p); free(0); p=calloc(2,sizeof *p); putchar('x'); checkpoint();
abbrev pub MarksComeInOrder : Type 0
MarksComeInOrder =
    Means
    (main_of [] (INT_POINTER ∷ [])
    (tree.declare 0 (tree.value (tree.allocate INT_POINTER false (int 3))) ∷ evaluate tree.checkpoint
    ∷ evaluate (tree.release (pointer_in (tree.variable 0))) ∷ evaluate (tree.release (tree.null_pointer INT_POINTER))
    ∷ evaluate (tree.assign INT_POINTER (tree.variable 0) (tree.allocate INT_POINTER true (int 2))) ∷ show (int 120)
    ∷ evaluate tree.checkpoint ∷ []))
    both 9 (codes "x") (allocated 3 1 ∷ reached 1 0 ∷ freed ∷ allocated 2 1 ∷ reached 1 1 ∷ []) 1 (Ended (pos 0))

-- void save(void){checkpoint();} .. for(i=0;i<2;i++){putchar('a'); checkpoint(); save();}
abbrev pub MarksTellTurns : Type 0
MarksTellTurns =
    Means
    (program [] (INT ∷ [])
    (tree.repeat_for (Some (tree.assign INT (tree.variable 0) (int 0))) (Some (less (local 0) (int 2))) (Some (step 0))
    (block (show (int 97) ∷ evaluate tree.checkpoint ∷ evaluate (call 1 []) ∷ [])) ∷ [])
    (function_of None 0 [] (evaluate tree.checkpoint ∷ []) ∷ []))
    both 9 (codes "aa") (reached 2 1 ∷ reached 3 1 ∷ reached 4 2 ∷ reached 5 2 ∷ []) 5 (Ended (pos 0))

-- int **h=calloc(1,sizeof *h); return *h==NULL;
abbrev pub CallocGivesNull : Type 0
CallocGivesNull =
    Means
    (program [] (16 ∷ [])
    (tree.declare 0 (tree.value (tree.allocate 16 true (int 1)))
    ∷ give
    (join (pointer_in (tree.pointee (tree.read 16 (tree.variable 0)))) (operator.ComparePointers Equal INT_POINTER) (tree.null_pointer INT_POINTER)) ∷ []) [])
    both 9 [] (allocated 1 1 ∷ []) 1 (Ended (pos 1))
