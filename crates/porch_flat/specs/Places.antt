-- Where commands and labels stand in a function.
use Rattle.std.specs.Prelude.{ℕ, ◌==◌, Bool, false, List, position, codes, Option}
use Rattle.std.specs.Str.{bytes_eq}
use Rattle.porch_flat.specs.declared.flat.Command.{Command}
use Rattle.porch_flat.specs.declared.flat.Command.TheVariants as command
use Rattle.porch_flat.specs.declared.flat.Function.{Function}
use Rattle.porch_flat.specs.declared.flat.Flat.{Flat}

-- the label of this number
abbrev pub is_label : ℕ → Command → Bool
is_label n (command.Label m) = n == m
is_label n _ = false

-- where the first label of a number stands
abbrev pub place_of_label : List Command → ℕ → Option ℕ
place_of_label commands n = position (is_label n) commands

abbrev pub is_main : Function → Bool
is_main f = bytes_eq (codes "main") f.name

-- the number of main, which is the first function of that name
abbrev pub main_of : Flat → Option ℕ
main_of f = position is_main f.functions
