-- How the first broken rule is looked for, line by line.
use Rattle.std.specs.Prelude.{◌≡◌, ℕ, ◌+◌, Bool, true, false, ◌≤◌, List, ◌∷◌, ◌++◌, length, take, sum_by, slice_index_or, Option, Some, None, Result, Ok, Err, ⊤}
use Rattle.porch_types.specs.Leaves.{leaves_of}
use Rattle.porch_flat.specs.declared.flat.GlobalObject.{GlobalObject}
use Rattle.porch_flat.specs.declared.whole.FlatRule.{FlatRule}
use Rattle.porch_flat.specs.declared.whole.Function.{Function}
use Rattle.porch_flat.specs.declared.whole.Flat.{Flat}
use Rattle.porch_flat.specs.declared.whole.Sort.{Sort}
use Rattle.porch_flat.specs.declared.whole.Sort.TheVariants as sort
use Rattle.porch_flat.specs.declared.whole.valid.ValidFault.{ValidFault}
use Rattle.porch_flat.specs.declared.whole.valid.ValidFault.TheVariants.{NotValid, NoMemory}
use Rattle.porch_flat.specs.whole.Form.{Form}
use Rattle.porch_flat.specs.whole.Lines.{Line, global_line, init_lines, function_line, var_lines, begin_line, command_lines}
use Rattle.porch_flat.specs.whole.Rewritten.{are_marked, leads_to_checkpoint, places_from, reaches}
use Rattle.porch_flat.specs.whole.Search.{first_in}

-- the fault is the one that is found, want of memory apart
abbrev pub IsFault : Option (ℕ × FlatRule) → ValidFault → Type 0
IsFault want NoMemory = ⊤
IsFault want (NotValid n r) = want ≡ Some (n, r)

-- no rule is broken, or the one that is found
abbrev pub Finds : {X : Type 0} → Option (ℕ × FlatRule) → Result X ValidFault → Type 0
Finds want (Ok x) = want ≡ None
Finds want (Err fault) = IsFault want fault

-- the first broken rule of these lines alone, the first of them with this number
abbrev pub first_of : (Line → Option FlatRule) → ℕ → List Line → Option (ℕ × FlatRule)
first_of test n lines = first_in test n lines None

-- The lines, the first of them with this number, were gone through: to the line behind them, or to the first that breaks
-- a rule.
abbrev pub Passes : (Line → Option FlatRule) → ℕ → List Line → Result ℕ ValidFault → Type 0
Passes test n lines (Ok m) = (first_of test n lines ≡ None) × (m ≡ n + length lines)
Passes test n lines (Err fault) = IsFault (first_of test n lines) fault

-- the leaves of the globals before this one
abbrev pub leaves_before : Flat → ℕ → ℕ
leaves_before flat n = sum_by (λ g. leaves_of flat.types g.ty) (take n flat.globals)

-- what is kept of a function's reaching a checkpoint
abbrev pub reach_of : List Bool → ℕ → Bool
reach_of kept n = slice_index_or kept n false

-- it is kept of each function, where it is asked for
abbrev pub AreReaching : Sort → Flat → List Bool → Type 0
AreReaching sort.Plain flat kept = ⊤
AreReaching sort.Rewritten flat kept = (n : ℕ) → reach_of kept n ≡ reaches flat n

-- the lines of one global, and of one function from its line on
abbrev pub global_part : ℕ → GlobalObject → List Line
global_part n g = global_line n g ∷ init_lines n g 0 g.inits

abbrev pub body_part : Function → List Line
body_part f = begin_line ∷ command_lines f 0 f.commands

abbrev pub function_part : ℕ → Function → List Line
function_part n f = function_line n f ∷ (var_lines f 0 f.vars ++ body_part f)

-- the places of the calls that have numbers
abbrev pub call_places : (ℕ → Bool) → List Form → List ℕ
call_places reaches forms = places_from 0 (leads_to_checkpoint reaches) forms

-- how many there are, if each is marked
abbrev pub IsMarkedCount : ℕ → List Form → (ℕ → Bool) → Option ℕ → Type 0
IsMarkedCount vars forms reaches None = are_marked vars forms 1 (call_places reaches forms) ≡ false
IsMarkedCount vars forms reaches (Some count) =
    (are_marked vars forms 1 (call_places reaches forms) ≡ true) × (count ≡ length (call_places reaches forms)) × (count ≤ length forms)
