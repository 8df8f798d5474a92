-- How a program is made to save and rebuild its frames. Only functions that reach a checkpoint change: behind the
-- commands that rebuild a frame stand their own ones, each CALL or CHECKPOINT that may reach a checkpoint between its label
-- and the way out, and last the commands that save a frame.
use Rattle.std.specs.Prelude.{ℕ, zero, suc, ◌+◌, ◌^◌, Bool, if◌then◌else◌, List, [], ◌∷◌, ◌++◌, length, count_by}
use Rattle.std.specs.List.{range_with_len}
use Rattle.porch_flat.specs.declared.whole.Command.{Command}
use Rattle.porch_flat.specs.declared.whole.Command.TheVariants as command
use Rattle.porch_flat.specs.declared.whole.Function.{Function}
use Rattle.porch_flat.specs.declared.whole.Flat.{Flat}
use Rattle.porch_flat.specs.whole.Form.{form_of}
use Rattle.porch_flat.specs.whole.Rewritten.{leads_to_checkpoint, reaches}

-- the labels that are added begin here
abbrev pub FIRST_LABEL : ℕ
FIRST_LABEL = 2 ^ 30

-- the tables of so many call numbers, behind those of so many
abbrev pub tables : (before count : ℕ) → List Command
tables before zero = []
tables before (suc count) = command.Table (before + 1) (FIRST_LABEL + before) ∷ tables (before + 1) count

abbrev pub with_commands : Function → List Command → Function
with_commands f commands = record { name = f.name; result = f.result; params = f.params; vars = f.vars; commands = commands }

module _ (reaching : ℕ → Bool) where
  -- a command at which a checkpoint may be reached; these have the call numbers 1, 2, .. in order
  abbrev pub has_number : Command → Bool
  has_number c = leads_to_checkpoint reaching (form_of c)

  -- how many there are
  abbrev pub numbers_in : List Command → ℕ
  numbers_in commands = count_by has_number commands

  -- a command behind so many of them, with the label of the way out
  abbrev pub with_marks : (out before : ℕ) → Command → List Command
  with_marks out before c =
      if has_number c
      then command.Label (FIRST_LABEL + before) ∷ c ∷ command.Saved (before + 1) out ∷ []
      else c ∷ []

  abbrev pub next_number : (before : ℕ) → Command → ℕ
  next_number before c = if has_number c then before + 1 else before

  abbrev pub all_with_marks : (out before : ℕ) → List Command → List Command
  all_with_marks out before [] = []
  all_with_marks out before (c ∷ commands) = with_marks out before c ++ all_with_marks out (next_number before c) commands

  -- the label of the way out
  abbrev pub way_out : Function → ℕ
  way_out f = FIRST_LABEL + numbers_in f.commands

  abbrev pub every_variable : Function → List ℕ
  every_variable f = range_with_len 0 (length f.vars)

  -- what stands in front of a function's own commands, and behind them
  abbrev pub front : Function → List Command
  front f = command.Restore (every_variable f) ∷ tables 0 (numbers_in f.commands)

  abbrev pub back : Function → List Command
  back f = command.Label (way_out f) ∷ command.Push (every_variable f) ∷ []

  abbrev pub saving_commands : Function → List Command
  saving_commands f = front f ++ (all_with_marks (way_out f) 0 f.commands ++ back f)

  abbrev pub rewritten_function : ℕ → Function → Function
  rewritten_function n f = if reaching n then with_commands f (saving_commands f) else f

  abbrev pub rewritten_functions : ℕ → List Function → List Function
  rewritten_functions n [] = []
  rewritten_functions n (f ∷ functions) = rewritten_function n f ∷ rewritten_functions (n + 1) functions

-- the rewritten program
abbrev pub rewritten : Flat → Flat
rewritten flat = record { types = flat.types; globals = flat.globals; functions = rewritten_functions (reaches flat) 0 flat.functions }
