-- Programs to try the rules on: one that saves and rebuilds its frame, one without a function, and one with a line to
-- be filled in.
use Rattle.std.specs.Prelude.{ℕ, pos, negsuc, Bool, true, false, ◌&&◌, List, [], ◌∷◌, ◌++◌, codes, Option, Some, None}
use Rattle.std.specs.Option.{option_map}
use Rattle.std.specs.List.{list_all}
use Rattle.porch_types.specs.Leaves.{kind_types}
use Rattle.porch_types.specs.declared.shapes.Ty.TheVariants.{Pointer, Struct}
use Rattle.porch_flat.specs.declared.flat.Init.TheVariants.{Value, Address}
use Rattle.porch_flat.specs.declared.flat.Operand.TheVariants.{Var as variable, Constant as constant}
use Rattle.porch_flat.specs.declared.flat.Operand.{Operand}
use Rattle.porch_flat.specs.declared.whole.Command.{Command}
use Rattle.porch_flat.specs.declared.whole.Command.TheVariants as command
use Rattle.porch_flat.specs.declared.whole.FlatRule.{FlatRule}
use Rattle.porch_flat.specs.declared.whole.FlatRule.TheVariants as rule
use Rattle.porch_flat.specs.declared.whole.Function.{Function}
use Rattle.porch_flat.specs.declared.whole.Flat.{Flat}
use Rattle.porch_flat.specs.declared.whole.Sort.{Sort}
use Rattle.porch_flat.specs.declared.whole.Sort.TheVariants as sort
use Rattle.porch_flat.specs.whole.Lines.{lines_of}
use Rattle.porch_flat.specs.whole.Rules.{keeps, has_main}

-- int main(void){checkpoint();putchar('A');return 0;}
abbrev pub saving_main : Function
saving_main =
    record {
      name = codes "main";
      result = Some 4;
      params = 0;
      vars = 4 ∷ [];
      commands =
          command.Restore (0 ∷ []) ∷ command.Table 1 0 ∷ command.Label 0 ∷ command.Checkpoint
          ∷ command.Saved 1 1 ∷ command.Char 0 (constant (pos 65)) ∷ command.Return (Some (constant (pos 0)))
          ∷ command.Label 1 ∷ command.Push (0 ∷ []) ∷ [];
    }

abbrev pub program_of : List Function → Flat
program_of functions = record { types = kind_types; globals = []; functions = functions }

abbrev pub saving_program : Flat
saving_program = program_of (saving_main ∷ [])

abbrev pub empty_program : Flat
empty_program = program_of []

abbrev pub rules : List FlatRule
rules = rule.Number ∷ rule.Kind ∷ rule.Constant ∷ rule.Jump ∷ rule.Arity ∷ rule.Modes ∷ rule.Main ∷ []

-- each line keeps each rule, and there is a main
abbrev pub keeps_all : Sort → Flat → Bool
keeps_all s flat = list_all (λ line. list_all (λ r. keeps s flat r line) rules) (lines_of flat) && has_main flat

-- long f(int, int *), which returns its third variable
abbrev pub long_function : Function
long_function =
    record {
      name = codes "f";
      result = Some 6;
      params = 2;
      vars = 4 ∷ 8 ∷ 6 ∷ [];
      commands = command.Return (Some (variable 2)) ∷ [];
    }

-- int main(void), with these commands; its variables are an int, a long, an int *, a struct of an int and a long, a
-- pointer to that, a char, an unsigned int and an unsigned long
abbrev pub main_with : List Command → Function
main_with commands =
    record {
      name = codes "main";
      result = Some 4;
      params = 0;
      vars = 4 ∷ 6 ∷ 8 ∷ 9 ∷ 10 ∷ 0 ∷ 5 ∷ 7 ∷ [];
      commands = commands;
    }

-- The first of the commands stands in line 28. A global of that struct begins with 5, and a pointer with the address
-- of that int.
abbrev pub program_with : List Command → Flat
program_with commands =
    record {
      types = kind_types ++ Pointer 4 ∷ Struct (4 ∷ 6 ∷ []) ∷ Pointer 9 ∷ Pointer 0 ∷ [];
      globals =
          record { ty = 9; inits = Value 0 (pos 5) ∷ [] } ∷ record { ty = 8; inits = Address 0 0 0 ∷ [] } ∷ [];
      functions = long_function ∷ main_with commands ∷ [];
    }

abbrev pub program_with_line : Command → Flat
program_with_line c = program_with (c ∷ command.Return (Some (constant (pos 0))) ∷ [])

-- single commands, and the first rule that each of them breaks in line 28
abbrev pub command_rows : List (Command × Option FlatRule)
command_rows =
    (command.Move 0 (constant (pos 2147483647)), None)
    ∷ (command.Move 0 (constant (pos 2147483648)), Some rule.Constant)
    ∷ (command.Move 1 (constant (pos 2147483648)), Some rule.Constant)
    ∷ (command.Move 5 (constant (pos 128)), Some rule.Constant)
    ∷ (command.Move 0 (variable 1), Some rule.Kind)
    ∷ (command.Move 8 (constant (pos 0)), Some rule.Number)
    ∷ (command.Cast 0 5, None)
    ∷ (command.Add 5 (constant (pos 1)) (constant (pos 1)), Some rule.Kind)
    ∷ (command.Add 0 (variable 0) (variable 1), Some rule.Kind)
    ∷ (command.Shl 1 (variable 1) (constant (pos 2147483648)), Some rule.Constant)
    ∷ (command.Lt 0 (constant (pos 1)) (variable 2), Some rule.Constant)
    ∷ (command.Eq 0 (variable 6) (constant (pos 4294967295)), None)
    ∷ (command.Eq 0 (variable 2) (variable 4), Some rule.Kind)
    ∷ (command.Local 2 3 2, Some rule.Number)
    ∷ (command.Local 4 3 0, None)
    ∷ (command.GlobalA 2 0 0, None)
    ∷ (command.GlobalA 2 2 0, Some rule.Number)
    ∷ (command.Member 2 4 2, Some rule.Number)
    ∷ (command.Step 2 2 (variable 6), None)
    ∷ (command.Step 2 2 (constant (pos 2147483648)), Some rule.Constant)
    ∷ (command.Step 2 2 (variable 5), Some rule.Kind)
    ∷ (command.Store 2 (variable 0), None)
    ∷ (command.Store 2 (variable 1), Some rule.Kind)
    ∷ (command.Store 2 (constant (pos 2147483648)), Some rule.Constant)
    ∷ (command.Copy 2 2, Some rule.Kind)
    ∷ (command.Kill 3, None)
    ∷ (command.Calloc 4 (constant (pos 4294967296)), Some rule.Constant)
    ∷ (command.Free 4, None)
    ∷ (command.Char 0 (variable 0), None)
    ∷ (command.Char 0 (variable 1), Some rule.Kind)
    ∷ (command.Hex 0 (constant (pos 4294967295)), None)
    ∷ (command.Hex 0 (constant (negsuc 0)), Some rule.Constant)
    ∷ (command.Label 2147483647, None)
    ∷ (command.Call (Some 1) 0 (variable 0 ∷ variable 2 ∷ []), None)
    ∷ (command.Call None 0 (constant (pos 1) ∷ constant (pos 0) ∷ []), None)
    ∷ (command.Call (Some 1) 2 (variable 0 ∷ variable 2 ∷ []), Some rule.Number)
    ∷ (command.Return (Some (variable 1)), Some rule.Arity)
    ∷ (command.Not 5 (constant (pos 0)), Some rule.Kind)
    ∷ (command.Diff 1 2 2, None)
    ∷ (command.Diff 0 2 2, Some rule.Kind)
    ∷ (command.Load 0 2, None)
    ∷ (command.Load 1 2, Some rule.Kind)
    ∷ (command.Back 2 2 (constant (pos 1)), None)
    ∷ (command.Copy 4 4, None)
    ∷ (command.Alloc 0 (constant (pos 1)), Some rule.Kind)
    ∷ (command.Alloc 4 (variable 6), None)
    ∷ (command.Free 0, Some rule.Kind)
    ∷ (command.Dec 0 (variable 7), None)
    ∷ (command.Dec 0 (variable 5), Some rule.Kind)
    ∷ (command.Text 0 2, Some rule.Kind)
    ∷ (command.If (variable 1) 0, Some rule.Kind)
    ∷ (command.If (constant (pos 2147483648)) 0, Some rule.Constant)
    ∷ (command.Le 0 (variable 5) (variable 5), Some rule.Kind)
    ∷ (command.Ne 0 (variable 2) (constant (pos 0)), None)
    ∷ (command.Eq 0 (variable 2) (constant (pos 1)), Some rule.Constant)
    ∷ (command.Jump 0, Some rule.Jump)
    ∷ (command.Kill 8, Some rule.Number)
    ∷ (command.Return (Some (variable 9)), Some rule.Number)
    ∷ (command.Call (Some 0) 0 (variable 0 ∷ variable 2 ∷ []), Some rule.Arity)
    ∷ (command.Call (Some 1) 0 (variable 0 ∷ []), Some rule.Arity)
    ∷ (command.Call (Some 1) 0 (variable 0 ∷ constant (pos 1) ∷ []), Some rule.Constant)
    ∷ (command.Return None, None) ∷ []

abbrev pub fault_in_first : Command × Option FlatRule → Option (ℕ × FlatRule)
fault_in_first row = option_map (λ r. (28, r)) row.1

-- programs, what is asked of them, and the line and the rule that each is refused by
pub record Row : Type 0 where
  pub sort : Sort
  pub program : Flat
  pub fault : Option (ℕ × FlatRule)

abbrev pub zero_constant : Operand
zero_constant = constant (pos 0)

abbrev pub plain_row : List Command → ℕ → FlatRule → Row
plain_row commands line r = record { sort = sort.Plain; program = program_with commands; fault = Some (line, r) }

abbrev pub saving_row : List Command → ℕ → FlatRule → Row
saving_row commands line r = record { sort = sort.Rewritten; program = program_with commands; fault = Some (line, r) }

-- a program without the function that it would begin with
abbrev pub program_without_main : List Command → Flat
program_without_main commands =
    record (program_with []) { functions = record long_function { commands = commands } ∷ [] }

-- Three programs a rule; in the third of each a rule that stands later among the rules is broken in an earlier line,
-- or, where there is none, a rule that stands earlier is broken too.
abbrev pub rows : List Row
rows =
    plain_row (command.Move 8 zero_constant ∷ []) 28 rule.Number
    ∷ plain_row (command.Kill 0 ∷ command.Call None 2 [] ∷ []) 29 rule.Number
    ∷ plain_row (command.Jump 5 ∷ command.Move 8 zero_constant ∷ []) 28 rule.Jump
    ∷ plain_row (command.Move 0 (variable 1) ∷ []) 28 rule.Kind
    ∷ plain_row (command.Kill 0 ∷ command.Not 5 zero_constant ∷ []) 29 rule.Kind
    ∷ plain_row (command.Move 0 (constant (pos 2147483648)) ∷ command.Move 0 (variable 1) ∷ []) 28 rule.Constant
    ∷ plain_row (command.Move 5 (constant (pos 128)) ∷ []) 28 rule.Constant
    ∷ plain_row (command.Kill 0 ∷ command.Eq 0 (variable 2) (constant (pos 1)) ∷ []) 29 rule.Constant
    ∷ plain_row (command.Return (Some (variable 1)) ∷ command.Move 5 (constant (pos 128)) ∷ []) 28 rule.Arity
    ∷ plain_row (command.Jump 7 ∷ []) 28 rule.Jump
    ∷ plain_row (command.Label 0 ∷ command.Jump 0 ∷ []) 29 rule.Jump
    ∷ plain_row (command.Call None 0 (constant (pos 1) ∷ []) ∷ command.Jump 7 ∷ []) 28 rule.Arity
    ∷ plain_row (command.Return (Some (variable 1)) ∷ []) 28 rule.Arity
    ∷ plain_row (command.Kill 0 ∷ command.Call (Some 0) 0 (variable 0 ∷ variable 2 ∷ []) ∷ []) 29 rule.Arity
    ∷ plain_row (command.Return (Some (variable 1)) ∷ command.Push (0 ∷ []) ∷ []) 18 rule.Modes
    ∷ plain_row (command.Table 1 0 ∷ []) 18 rule.Modes
    ∷ saving_row (command.Checkpoint ∷ []) 18 rule.Modes
    ∷ saving_row (command.Checkpoint ∷ command.Move 8 zero_constant ∷ []) 18 rule.Modes
    ∷ record { sort = sort.Plain; program = program_of []; fault = Some (3, rule.Main) }
    ∷ record { sort = sort.Plain; program = program_without_main []; fault = Some (17, rule.Main) }
    ∷ record { sort = sort.Plain; program = program_without_main (command.Jump 3 ∷ []); fault = Some (16, rule.Jump) }
    ∷ []

-- names, and whether a function may have them
abbrev pub name_rows : List (List ℕ × Bool)
name_rows =
    (codes "main", true) ∷ (codes "_f2", true) ∷ (codes "While", true) ∷ (codes "while", false)
    ∷ (codes "unsigned", false) ∷ (codes "2f", false) ∷ (codes "f-2", false) ∷ ([], false) ∷ []
