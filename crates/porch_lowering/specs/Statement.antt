-- The code of statements. A loop's test stands behind its body, so that the only jump backward leads to a TURN; no
-- temporary is in use between two statements.
use Rattle.std.specs.Prelude.{ℕ, ◌+◌, pos, nat_eq, Bool, true, List, [], ◌∷◌, ◌++◌, slice_get, slice_index, if◌then◌else◌, Option, Some, None}
use Rattle.std.specs.List.{range_with_len}
use Rattle.porch_types.specs.declared.shapes.Ty.{Ty}
use Rattle.porch_types.specs.declared.shapes.Ty.TheVariants.{Struct}
use Rattle.porch_types.specs.Leaves.{leaves_of}
use Rattle.porch_types.specs.LeafTypes.{leaf_type}
use Rattle.porch_flat.specs.declared.flat.Operand.{Operand}
use Rattle.porch_flat.specs.declared.flat.Operand.TheVariants.{Var, Constant}
use Rattle.porch_flat.specs.declared.whole.Command.{Command}
use Rattle.porch_flat.specs.declared.whole.Command.TheVariants as command
use Rattle.porch_typed.specs.declared.typed.Fill.{Fill}
use Rattle.porch_typed.specs.declared.typed.Fill.TheVariants as fill
use Rattle.porch_typed.specs.Mirror.{Expression, Initial, Statement, Statements, SwitchEntry, SwitchEntries, Program}
use Rattle.porch_typed.specs.Mirror as tree
use Rattle.porch_lowering.specs.Code.{none_in_use, and_one, at_most, Code, no_code, plain, then_code, then_commands, commands_then}
use Rattle.porch_lowering.specs.Values.{INT, pointer_to, type_held, may_lack, atom_of}
use Rattle.porch_lowering.specs.Operators.{var_of}
use Rattle.porch_lowering.specs.Expression.{code, next, hold_value, use_if, test, assign_variable, writes_last}

-- the labels that break and continue lead to
pub record Exits : Type 0 where
  pub broke : ℕ
  pub went_round : ℕ

-- what a leaf begins with, and 0 where nothing is given
abbrev pub fill_at : List (ℕ × Fill) → (leaf : ℕ) → Fill
fill_at [] leaf = fill.Constant (pos 0)
fill_at (x ∷ xs) leaf = if nat_eq x.0 leaf then x.1 else fill_at xs leaf

-- how many labels of its own a switch has in it
abbrev pub labels_among : SwitchEntries → ℕ
labels_among tree.no_entries = 0
labels_among (tree.with_entry (tree.case z) xs) = 1 + labels_among xs
labels_among (tree.with_entry tree.default xs) = 1 + labels_among xs
labels_among (tree.with_entry (tree.statement a) xs) = labels_among xs

-- A value is compared with one case after the other; the first label is this one.
abbrev pub cases_code : SwitchEntries → (first : ℕ) → (value is_equal : ℕ) → List Command
cases_code tree.no_entries n x t = []
cases_code (tree.with_entry (tree.case z) xs) n x t =
    command.Eq t (Var x) (Constant z) ∷ command.If (Var t) n ∷ cases_code xs (n + 1) x t
cases_code (tree.with_entry tree.default xs) n x t = cases_code xs (n + 1) x t
cases_code (tree.with_entry (tree.statement a) xs) n x t = cases_code xs n x t

-- the label of `default`, and another one where there is none
abbrev pub default_label : SwitchEntries → (first otherwise : ℕ) → ℕ
default_label tree.no_entries n otherwise = otherwise
default_label (tree.with_entry (tree.case z) xs) n otherwise = default_label xs (n + 1) otherwise
default_label (tree.with_entry tree.default xs) n otherwise = n
default_label (tree.with_entry (tree.statement a) xs) n otherwise = default_label xs n otherwise

-- `variables` has the types of the function's variables.
module _ (p : Program) (start : ℕ → ℕ) (variables : List ℕ) (is_main : Bool) where
  -- an expression for nothing, or none
  abbrev pub dropped_code : Option Expression → (label : ℕ) → Code
  dropped_code None label = no_code none_in_use label
  dropped_code (Some e) label = code p start e None none_in_use label

  -- a condition, and on at a label where it holds; one that is left out holds
  abbrev pub test_code : Option Expression → (to : ℕ) → (label : ℕ) → Code
  test_code None to label = plain (command.Jump to ∷ []) none_in_use label
  test_code (Some e) to label = test p start e (code p start e) to none_in_use label

  -- a leaf of a variable begins with a value
  abbrev pub fill_code : (variable leaf ty : ℕ) → Fill → Code
  fill_code v leaf ty (fill.Constant z) =
      let at = next p start (pointer_to p ty) none_in_use in
      plain (command.Local at v leaf ∷ command.Store at (Constant z) ∷ []) (and_one (pointer_to p ty) none_in_use) 0
  fill_code v leaf ty fill.Null =
      let at = next p start (pointer_to p ty) none_in_use in
      plain (command.Local at v leaf ∷ command.Store at (Constant (pos 0)) ∷ []) (and_one (pointer_to p ty) none_in_use) 0
  fill_code v leaf ty (fill.Address global first) =
      let at = next p start (pointer_to p ty) none_in_use in
      let used = and_one (pointer_to p ty) none_in_use in
      let address = next p start ty used in
      plain (command.GlobalA address global first ∷ command.Local at v leaf ∷ command.Store at (Var address) ∷ []) (and_one ty used) 0

  -- each leaf of a variable of a type, one by one
  abbrev pub fills_code : (variable ty : ℕ) → List (ℕ × Fill) → (leaves : List ℕ) → (label : ℕ) → Code
  fills_code v ty fills [] label = no_code none_in_use label
  fills_code v ty fills (leaf ∷ leaves) label =
      then_code (fill_code v leaf (leaf_type p.types ty leaf) (fill_at fills leaf)) (fills_code v ty fills leaves label)

  -- a struct is given the value of another one
  abbrev pub begin_struct : (variable ty : ℕ) → Expression → (label : ℕ) → Code
  begin_struct v ty e label =
      let pointer = pointer_to p ty in
      let from = hold_value p start None pointer (code p start e) none_in_use label in
      let at = next p start pointer from.used in
      record {
        commands = from.code.commands ++ command.Local at v 0 ∷ command.Copy at (var_of from.operand) ∷ [];
        most = at_most from.code.most (and_one pointer from.used);
        label = from.code.label;
      }

  abbrev pub begin_shape : Option Ty → (variable ty : ℕ) → Expression → (label : ℕ) → Code
  begin_shape (Some (Struct members)) v ty e label = begin_struct v ty e label
  begin_shape shape v ty e label = assign_variable p start ty v (writes_last p e) (code p start e) None none_in_use label

  -- what a variable begins with, when it has no value
  abbrev pub begin_code : (variable : ℕ) → Initial → (label : ℕ) → Code
  begin_code v tree.nothing label = no_code none_in_use label
  begin_code v (tree.value e) label = begin_shape (slice_get p.types (slice_index variables v)) v (slice_index variables v) e label
  begin_code v (tree.filled fills) label =
      fills_code v (slice_index variables v) fills (range_with_len 0 (leaves_of p.types (slice_index variables v))) label

  -- main gives 0 where it gives nothing
  abbrev pub NOTHING : Option Operand
  NOTHING = if is_main then Some (Constant (pos 0)) else None

  abbrev pub give_code : Option Expression → (label : ℕ) → Code
  give_code None label = plain (command.Return NOTHING ∷ []) none_in_use label
  give_code (Some e) label =
      let x = hold_value p start (atom_of (λ z. true) e) (type_held p e) (code p start e) none_in_use label in
      then_commands x.code (command.Return (Some x.operand) ∷ [])

  abbrev pub loop_exits : (label : ℕ) → Exits
  loop_exits label = record { broke = label + 3; went_round = label + 1 }

  -- A loop: what comes before it, its condition and what is done behind each round, and the code of its body. Its labels are
  -- those of the body, of what is done behind it, of the condition, and of what follows the loop.
  abbrev pub loop_code : (before : Code) → (condition next : Option Expression) → (round : Code) → (label : ℕ) → Code
  loop_code before condition next round label =
      let behind = dropped_code next round.label in
      let again = test_code condition label behind.label in
      then_commands
      (then_code
      (then_commands before (command.Jump (label + 2) ∷ command.Label label ∷ command.Turn ∷ []))
      (then_code (then_commands round (command.Label (label + 1) ∷ []))
      (then_code (then_commands behind (command.Label (label + 2) ∷ [])) again)))
      (command.Label (label + 3) ∷ [])

  abbrev mutual
    pub act_code : Statement → Exits → (label : ℕ) → Code
    act_code (tree.block ss) exits label = acts_code ss exits label
    act_code (tree.declare v i) exits label = commands_then (command.Kill v ∷ []) (begin_code v i label)
    act_code (tree.evaluate e) exits label = dropped_code (Some e) label
    act_code (tree.choose e a b) exits label =
        let condition = test_code (Some e) label (label + 2) in
        let other = act_code b exits condition.label in
        let chosen = act_code a exits other.label in
        then_commands
        (then_code condition
        (then_code (then_commands other (command.Jump (label + 1) ∷ command.Label label ∷ [])) chosen))
        (command.Label (label + 1) ∷ [])
    act_code (tree.repeat_while e body) exits label =
        let round = act_code body (loop_exits label) (label + 4) in loop_code (no_code none_in_use 0) (Some e) None round label
    act_code (tree.repeat_until body e) exits label =
        let round = act_code body (loop_exits label) (label + 4) in
        let again = test_code (Some e) label round.label in
        then_commands
        (then_code
        (commands_then (command.Label label ∷ command.Turn ∷ []) (then_commands round (command.Label (label + 1) ∷ [])))
        again)
        (command.Label (label + 3) ∷ [])
    act_code (tree.repeat_for first condition next body) exits label =
        let before = dropped_code first (label + 4) in
        let round = act_code body (loop_exits label) before.label in
        loop_code before condition next round label
    act_code (tree.switch kind e entries) exits label =
        let ty = type_held p e in
        let x = next p start ty none_in_use in
        let used = and_one ty none_in_use in
        let t = next p start INT used in
        let value = code p start e (Some x) used (label + 1 + labels_among entries) in
        let begun =
        then_code
        (then_commands value (use_if p start (may_lack e) x))
        (plain (cases_code entries (label + 1) x t ++ command.Jump (default_label entries (label + 1) label) ∷ []) (and_one INT used) value.label) in
        let inside = entries_code entries (label + 1) (record { broke = label; went_round = exits.went_round }) value.label in
        then_commands (then_code begun inside) (command.Label label ∷ [])
    act_code tree.leave_loop exits label = plain (command.Jump exits.broke ∷ []) none_in_use label
    act_code tree.go_round exits label = plain (command.Jump exits.went_round ∷ []) none_in_use label
    act_code (tree.give e) exits label = give_code e label

    pub acts_code : Statements → Exits → (label : ℕ) → Code
    acts_code tree.no_statements exits label = no_code none_in_use label
    acts_code (tree.with_statement a more) exits label =
        let first = act_code a exits label in then_code first (acts_code more exits first.label)

    -- the entries of a switch; the first of their labels is this one
    pub entries_code : SwitchEntries → (first : ℕ) → Exits → (label : ℕ) → Code
    entries_code tree.no_entries n exits label = no_code none_in_use label
    entries_code (tree.with_entry (tree.case z) xs) n exits label = commands_then (command.Label n ∷ []) (entries_code xs (n + 1) exits label)
    entries_code (tree.with_entry tree.default xs) n exits label = commands_then (command.Label n ∷ []) (entries_code xs (n + 1) exits label)
    entries_code (tree.with_entry (tree.statement a) xs) n exits label =
        let first = act_code a exits label in then_code first (entries_code xs n exits first.label)
