-- The command that a word and arguments are.
use Rattle.std.specs.Prelude.{ℕ, List, length, Option, Some, None}
use Rattle.porch_flat.specs.declared.whole.Command.{Command}
use Rattle.porch_flat.specs.declared.whole.Command.TheVariants as command
use Rattle.porch_flat_line.specs.declared.word.Word.{Word}
use Rattle.porch_flat_line.specs.declared.word.Word.TheVariants as word
use Rattle.porch_flat_text.specs.inside.Numbers.{number_in, variable_in, operand_in, operand_if_any, target_in}
use Rattle.porch_flat_text.specs.inside.Cuts.{first, rest, each_in}

abbrev pub fixed_command : Word → List ℕ → List ℕ → List ℕ → Option Command
fixed_command word.Move a b c = Some (command.Move (variable_in a) (operand_in b))
fixed_command word.Cast a b c = Some (command.Cast (variable_in a) (variable_in b))
fixed_command word.Add a b c = Some (command.Add (variable_in a) (operand_in b) (operand_in c))
fixed_command word.Sub a b c = Some (command.Sub (variable_in a) (operand_in b) (operand_in c))
fixed_command word.Mul a b c = Some (command.Mul (variable_in a) (operand_in b) (operand_in c))
fixed_command word.Div a b c = Some (command.Div (variable_in a) (operand_in b) (operand_in c))
fixed_command word.Rem a b c = Some (command.Rem (variable_in a) (operand_in b) (operand_in c))
fixed_command word.And a b c = Some (command.And (variable_in a) (operand_in b) (operand_in c))
fixed_command word.Or a b c = Some (command.Or (variable_in a) (operand_in b) (operand_in c))
fixed_command word.Xor a b c = Some (command.Xor (variable_in a) (operand_in b) (operand_in c))
fixed_command word.Shl a b c = Some (command.Shl (variable_in a) (operand_in b) (operand_in c))
fixed_command word.Shr a b c = Some (command.Shr (variable_in a) (operand_in b) (operand_in c))
fixed_command word.Not a b c = Some (command.Not (variable_in a) (operand_in b))
fixed_command word.Lt a b c = Some (command.Lt (variable_in a) (operand_in b) (operand_in c))
fixed_command word.Le a b c = Some (command.Le (variable_in a) (operand_in b) (operand_in c))
fixed_command word.Eq a b c = Some (command.Eq (variable_in a) (operand_in b) (operand_in c))
fixed_command word.Ne a b c = Some (command.Ne (variable_in a) (operand_in b) (operand_in c))
fixed_command word.Local a b c = Some (command.Local (variable_in a) (variable_in b) (number_in c))
fixed_command word.GlobalA a b c = Some (command.GlobalA (variable_in a) (number_in b) (number_in c))
fixed_command word.Member a b c = Some (command.Member (variable_in a) (variable_in b) (number_in c))
fixed_command word.Step a b c = Some (command.Step (variable_in a) (variable_in b) (operand_in c))
fixed_command word.Back a b c = Some (command.Back (variable_in a) (variable_in b) (operand_in c))
fixed_command word.Diff a b c = Some (command.Diff (variable_in a) (variable_in b) (variable_in c))
fixed_command word.Load a b c = Some (command.Load (variable_in a) (variable_in b))
fixed_command word.Store a b c = Some (command.Store (variable_in a) (operand_in b))
fixed_command word.Copy a b c = Some (command.Copy (variable_in a) (variable_in b))
fixed_command word.Kill a b c = Some (command.Kill (variable_in a))
fixed_command word.Alloc a b c = Some (command.Alloc (variable_in a) (operand_in b))
fixed_command word.Calloc a b c = Some (command.Calloc (variable_in a) (operand_in b))
fixed_command word.Free a b c = Some (command.Free (variable_in a))
fixed_command word.Char a b c = Some (command.Char (variable_in a) (operand_in b))
fixed_command word.Dec a b c = Some (command.Dec (variable_in a) (operand_in b))
fixed_command word.Hex a b c = Some (command.Hex (variable_in a) (operand_in b))
fixed_command word.Text a b c = Some (command.Text (variable_in a) (variable_in b))
fixed_command word.Label a b c = Some (command.Label (number_in a))
fixed_command word.Jump a b c = Some (command.Jump (number_in a))
fixed_command word.If a b c = Some (command.If (operand_in a) (number_in b))
fixed_command word.Turn a b c = Some command.Turn
fixed_command word.Table a b c = Some (command.Table (number_in a) (number_in b))
fixed_command word.Saved a b c = Some (command.Saved (number_in a) (number_in b))
fixed_command word.Checkpoint a b c = Some command.Checkpoint
fixed_command word.Return a b c = Some (command.Return (operand_if_any a))
fixed_command w a b c = None

abbrev pub call_from : List ℕ → Command
call_from inner =
    command.Call (target_in (first inner)) (number_in (first (rest inner)))
    (each_in operand_in (length (rest (rest inner))) (rest (rest inner)))

abbrev pub command_from : Word → List ℕ → Option Command
command_from word.Call inner = Some (call_from inner)
command_from word.Restore inner = Some (command.Restore (each_in variable_in (length inner) inner))
command_from word.Push inner = Some (command.Push (each_in variable_in (length inner) inner))
command_from w inner = fixed_command w (first inner) (first (rest inner)) (first (rest (rest inner)))
