-- What stands at the head of a tree.
use Rattle.std.specs.Prelude.{Bool, true, false}
use Rattle.porch_typed.specs.Mirror.{Expression, constant, row, all_of, any_of, sequence}
use Rattle.porch_tree.specs.declared.tree.Infix.{Infix}
use Rattle.porch_tree.specs.declared.tree.Infix.TheVariants.{All, Any}

abbrev pub is_constant : Expression → Bool
is_constant (constant kind z) = true
is_constant e = false

-- it never gets longer
abbrev pub is_short : Expression → Bool
is_short (row e steps) = false
is_short (all_of e es) = false
is_short (any_of e es) = false
is_short (sequence e es) = false
is_short e = true

-- `&&`, and `||`

abbrev pub is_every : Infix → Bool
is_every All = true
is_every op = false

abbrev pub is_some_of : Infix → Bool
is_some_of Any = true
is_some_of op = false
