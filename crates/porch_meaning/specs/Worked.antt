-- Programs whose meaning is worked out, under a long of 64 bits.
use Rattle.std.specs.Prelude.{ℕ, pos, negsuc, ◌≡◌, List, [], ◌∷◌, Option, Some, None, true, false, refl}
use Rattle.porch_syntax.specs.declared.tree.Sign.TheVariants.{Plus, Minus}
use Rattle.porch_syntax.specs.Tree.{Node, variable, whole, character, nested, product, sum, less, no_nodes, node, no_terms, term, Action, assign, repeat, putchar, give, Actions, no_actions, action}
use Rattle.porch_types.specs.Leaves.{kind_types}
use Rattle.porch_values.specs.declared.acts.Act.TheVariants.{Overflow, Indeterminate}
use Rattle.porch_values.specs.declared.widths.Widths.{Widths}
use Rattle.porch_objects.specs.Meaning.{without_input, Ending, Ended, Met, Paused}
use Rattle.porch_meaning.specs.Mean.{mean}

abbrev pub wide_only : Widths
wide_only = record { narrow = false; wide = true; some = refl }

abbrev pub constant : ℕ → Node
constant n = whole (pos n)

abbrev pub plus : Node → Node → Node
plus a b = sum a (term Plus b no_terms)

abbrev pub minus : Node → Node → Node
minus a b = sum a (term Minus b no_terms)

abbrev pub times : Node → Node → Node
times a b = product a (node b no_nodes)

abbrev pub actions : List Action → Actions
actions [] = no_actions
actions (a ∷ more) = action a (actions more)

-- the program with these declarations and statements has this output, makes these turns and ends so, within n turns
abbrev pub Means : List (Option Node) → List Action → ℕ → List ℕ → ℕ → Ending → Type 0
Means declarations statements n output turns ending =
    mean kind_types (record { declarations = declarations; actions = actions statements }) (without_input wide_only) n ≡ record { output = output; marks = []; turns = turns; ending = ending }

-- int i = 0; while (i < 3) { putchar('0' + i); i = i + 1; } return 0;
abbrev pub counting : List Action
counting =
    repeat (less (variable 0) (constant 3)) (actions (putchar (plus (character 48) (variable 0)) ∷ assign 0 (plus (variable 0) (constant 1)) ∷ []))
    ∷ give (constant 0) ∷ []

abbrev pub CountsToThree : Type 0
CountsToThree = Means (Some (constant 0) ∷ []) counting 4 (48 ∷ 49 ∷ 50 ∷ []) 4 (Ended (pos 0))

abbrev pub PausesBehindThreeTurns : Type 0
PausesBehindThreeTurns = Means (Some (constant 0) ∷ []) counting 3 (48 ∷ 49 ∷ []) 3 Paused

-- int i = 2147483647; i = i + 1; return i;
abbrev pub Overflows : Type 0
Overflows = Means (Some (constant 2147483647) ∷ []) (assign 0 (plus (variable 0) (constant 1)) ∷ give (variable 0) ∷ []) 9 [] 1 (Met Overflow)

-- int i; return i;
abbrev pub ReadsNoValue : Type 0
ReadsNoValue = Means (None ∷ []) (give (variable 0) ∷ []) 9 [] 1 (Met Indeterminate)

-- int i = i; return 0;
abbrev pub ReadsItself : Type 0
ReadsItself = Means (Some (variable 0) ∷ []) (give (constant 0) ∷ []) 9 [] 1 (Met Indeterminate)

-- int a; int b; a = b; return 0;
abbrev pub AssignsNoValue : Type 0
AssignsNoValue = Means (None ∷ None ∷ []) (assign 0 (variable 1) ∷ give (constant 0) ∷ []) 9 [] 1 (Met Indeterminate)

-- int i = 0; int j; while (i < 2) { j = 0; while (j < 2) { putchar('a' + i * 2 + j); j = j + 1; } i = i + 1; } return i;
abbrev pub LoopsNest : Type 0
LoopsNest =
    Means (Some (constant 0) ∷ None ∷ [])
    (repeat (less (variable 0) (constant 2))
    (actions
    (assign 1 (constant 0)
    ∷ repeat (less (variable 1) (constant 2))
    (actions
    (putchar (sum (character 97) (term Plus (times (variable 0) (constant 2)) (term Plus (variable 1) no_terms)))
    ∷ assign 1 (plus (variable 1) (constant 1)) ∷ []))
    ∷ assign 0 (plus (variable 0) (constant 1)) ∷ []))
    ∷ give (variable 0) ∷ [])
    9 (97 ∷ 98 ∷ 99 ∷ 100 ∷ []) 7 (Ended (pos 2))

-- while (1 < 0) { putchar('x'); } return 7;
abbrev pub LoopNeverRuns : Type 0
LoopNeverRuns = Means [] (repeat (less (constant 1) (constant 0)) (actions (putchar (character 120) ∷ [])) ∷ give (constant 7) ∷ []) 9 [] 1 (Ended (pos 7))

-- while (1) { return 5; } return 6;
abbrev pub ReturnsFromLoop : Type 0
ReturnsFromLoop = Means [] (repeat (constant 1) (actions (give (constant 5) ∷ [])) ∷ give (constant 6) ∷ []) 9 [] 2 (Ended (pos 5))

-- return (1 < 2) * 10 + (2 < 1);
abbrev pub Compares : Type 0
Compares = Means [] (give (plus (times (nested (less (constant 1) (constant 2))) (constant 10)) (nested (less (constant 2) (constant 1)))) ∷ []) 9 [] 1 (Ended (pos 10))

-- return 10 - 3 - 2 * 4;
abbrev pub GroupsToTheLeft : Type 0
GroupsToTheLeft = Means [] (give (sum (constant 10) (term Minus (constant 3) (term Minus (times (constant 2) (constant 4)) no_terms))) ∷ []) 9 [] 1 (Ended (negsuc 0))

-- int i; return (2147483647 + 1) + i;
abbrev pub LeftOperandFirst : Type 0
LeftOperandFirst = Means (None ∷ []) (give (plus (nested (plus (constant 2147483647) (constant 1))) (variable 0)) ∷ []) 9 [] 1 (Met Overflow)

-- int i; return i + (2147483647 + 1);
abbrev pub ThenTheRight : Type 0
ThenTheRight = Means (None ∷ []) (give (plus (variable 0) (nested (plus (constant 2147483647) (constant 1)))) ∷ []) 9 [] 1 (Met Indeterminate)

-- while (1) { }
abbrev pub BudgetOfOne : Type 0
BudgetOfOne = Means [] (repeat (constant 1) no_actions ∷ []) 1 [] 1 Paused

-- putchar(321); putchar(0 - 1);
abbrev pub ShowsLowBytes : Type 0
ShowsLowBytes = Means [] (putchar (constant 321) ∷ putchar (minus (constant 0) (constant 1)) ∷ []) 9 (65 ∷ 255 ∷ []) 1 (Ended (pos 0))
