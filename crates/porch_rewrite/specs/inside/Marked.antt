-- The functions that reach a checkpoint, as they are kept.
use Rattle.std.specs.Prelude.{ℕ, ◌+◌, ◌<◌, ◌≤◌, ◌^◌, length, Bool, false, List, [], ◌∷◌, ◌++◌, slice_index_or}
use Rattle.std.specs.List.{range_with_len}
use Rattle.porch_flat.specs.declared.whole.Command.{Command}
use Rattle.porch_flat.specs.declared.whole.Command.TheVariants as command
use Rattle.porch_flat.specs.declared.whole.Function.{Function}
use Rattle.porch_rewrite.specs.Rewriting.{FIRST_LABEL, tables, numbers_in, all_with_marks}

abbrev pub marked : List Bool → ℕ → Bool
marked marks function = slice_index_or marks function false

-- the commands of a function with so many variables, rewritten
abbrev pub saving_of : (ℕ → Bool) → ℕ → List Command → List Command
saving_of reaching variables commands =
    (command.Restore (range_with_len 0 variables) ∷ tables 0 (numbers_in reaching commands))
    ++ (all_with_marks reaching (FIRST_LABEL + numbers_in reaching commands) 0 commands
    ++ command.Label (FIRST_LABEL + numbers_in reaching commands) ∷ command.Push (range_with_len 0 variables) ∷ [])

-- there is room for the labels and the variables of a function
pub record IsFew (reaching : ℕ → Bool) (f : Function) : Type 0 where
  pub numbers : numbers_in reaching f.commands < FIRST_LABEL
  pub variables : length f.vars ≤ 2 ^ 31
