-- One past the end of a row, over checkpoint(): an end that is shared with the next object is forgotten there, also one
-- that an unfinished expression holds.
use Rattle.std.specs.Prelude.{ℕ, pos, List, [], ◌∷◌}
use Rattle.porch_values.specs.declared.acts.Act.TheVariants as act
use Rattle.porch_objects.specs.Meaning.{reached, Ending, Ended, Met, Paused}
use Rattle.porch_typed.specs.declared.typed.Comparison.TheVariants.{Equal}
use Rattle.porch_typed.specs.declared.typed.Operator.TheVariants as operator
use Rattle.porch_typed.specs.Mirror.{Expression, Statement, Function, Program}
use Rattle.porch_typed.specs.Mirror as tree
use Rattle.porch_mean.specs.worked.Write.{both, INT, INT_POINTER, SQUARE, int, local, join, call, comma, pointer_in, at, behind, inner, compare, evaluate, give, function, global, program, Means}

-- int f(int *p, int c){return c;}
abbrev pub second : Function
second = function 2 (INT_POINTER ∷ INT ∷ []) (give (local 1) ∷ [])

-- int save(void){checkpoint();return 1;}
abbrev pub save : Function
save = function 0 [] (evaluate tree.checkpoint ∷ give (int 1) ∷ [])

-- m[i]+2 of int m[2][2]: the first is where m[1] begins, the second is nobody's
abbrev pub end : ℕ → Expression
end i = behind (inner (tree.global 0) i) 2

-- `e` of `int *e`
abbrev pub e : Expression
e = pointer_in (tree.variable 0)

abbrev pub reached_then : Expression → Expression
reached_then x = comma tree.checkpoint x

-- int m[2][2]; with the two functions, int main(void){int *e=m[i]+2; ..}
abbrev pub with_end : ℕ → List Statement → Program
with_end i body =
    program (global SQUARE [] ∷ []) (INT_POINTER ∷ []) (tree.declare 0 (tree.value (end i)) ∷ body) (second ∷ save ∷ [])

-- the end of m[0], within n turns; the only checkpoint() comes in turn 1
abbrev pub Comes : ℕ → List Statement → ℕ → Ending → Type 0
Comes n body turns ending = Means (with_end 0 body) both n [] (reached 1 0 ∷ []) turns ending

-- return f(e,(checkpoint(),1)): the argument is used again at the call, whose turn is tested before and counts after
abbrev pub HeldAsArgument : Type 0
HeldAsArgument =
    Comes 2 (give (call 1 (e ∷ reached_then (int 1) ∷ [])) ∷ []) 1 (Met act.Indeterminate)
    × Comes 1 (give (call 1 (e ∷ reached_then (int 1) ∷ [])) ∷ []) 1 Paused

-- e==(checkpoint(),e)
abbrev pub HeldAsOperand : Type 0
HeldAsOperand = Comes 9 (evaluate (compare Equal e (reached_then e)) ∷ []) 1 (Met act.Indeterminate)

-- *e=(checkpoint(),1): a place is a pointer that is held
abbrev pub HeldAsPlace : Type 0
HeldAsPlace = Comes 9 (evaluate (tree.assign INT (tree.pointee e) (reached_then (int 1))) ∷ []) 1 (Met act.Indeterminate)

-- e+=(checkpoint(),0): the left value is held
abbrev pub HeldAsLeftValue : Type 0
HeldAsLeftValue =
    Comes 9 (evaluate (tree.assign_by INT_POINTER (operator.Forward INT_POINTER) (tree.variable 0) (reached_then (int 0))) ∷ []) 1 (Met act.Indeterminate)

-- checkpoint(); return e==0;
abbrev pub Stored : Type 0
Stored =
    Comes 9 (evaluate tree.checkpoint ∷ give (compare Equal e (tree.null_pointer INT_POINTER)) ∷ []) 1 (Met act.Indeterminate)

-- checkpoint(); e=m[0]+2; return e==m[0]+2: one that is made later is good
abbrev pub MadeLater : Type 0
MadeLater =
    Comes 9
    (evaluate tree.checkpoint ∷ evaluate (tree.assign INT_POINTER (tree.variable 0) (end 0)) ∷ give (compare Equal e (end 0)) ∷ [])
    1 (Ended (pos 1))

-- e=e-1; checkpoint(); return *e;
abbrev pub ElementsStay : Type 0
ElementsStay =
    Comes 9
    (evaluate (tree.assign INT_POINTER (tree.variable 0) (join e (operator.Back INT_POINTER) (int 1))) ∷ evaluate tree.checkpoint
    ∷ give (at e) ∷ [])
    1 (Ended (pos 0))

-- int *e=m[1]+2; checkpoint(); return e==m[1]+2;
abbrev pub LastEndsStay : Type 0
LastEndsStay =
    Means (with_end 1 (evaluate tree.checkpoint ∷ give (compare Equal e (end 1)) ∷ [])) both 9 [] (reached 1 0 ∷ []) 1 (Ended (pos 1))

-- save(); return *e; where save reaches checkpoint() in turn 2
abbrev pub ReachedInACall : Type 0
ReachedInACall =
    Means (with_end 0 (evaluate (call 2 []) ∷ give (at e) ∷ [])) both 9 [] (reached 2 0 ∷ []) 2 (Met act.Indeterminate)

-- struct {int x; int *p;} g, h; g.p=m[0]+2; checkpoint(); h=g; return 0: a struct is copied with what it has
abbrev pub CopiedWithAStruct : Type 0
CopiedWithAStruct =
    Means
    (program (global SQUARE [] ∷ global 17 [] ∷ global 17 [] ∷ []) []
    (evaluate (tree.assign INT_POINTER (tree.member 1 (tree.global 1)) (end 0)) ∷ evaluate tree.checkpoint
    ∷ evaluate (tree.assign 17 (tree.global 2) (tree.whole 17 (tree.global 1))) ∷ give (int 0) ∷ []) [])
    both 9 [] (reached 1 0 ∷ []) 1 (Ended (pos 0))
