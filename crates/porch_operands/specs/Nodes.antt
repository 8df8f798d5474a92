-- What nodes are, from what was decided about them and the trees of their operands.
use Rattle.porch_typed.specs.Mirror.{Expression, choice}
use Rattle.porch_check.specs.Operands.{Form, operand, typed_as}
use Rattle.porch_operands.specs.declared.casts.Cast as code_cast
use Rattle.porch_operands.specs.declared.choices.Choice as code_choice
use Rattle.porch_operands.specs.Views.{as_value, became}

-- an operand behind a cast
abbrev pub cast_with : Expression → code_cast.Cast → Form
cast_with e x = operand (typed_as (became x.operand e) (as_value x.value))

-- a choice of a condition and its two parts
abbrev pub choice_with : (condition chosen other : Expression) → code_choice.Choice → Form
choice_with c a b x = operand (typed_as (choice x.ty c (became x.chosen a) (became x.other b)) (as_value x.value))
