-- Trees in their parts.
use Rattle.std.specs.Prelude.{Bool, true, map}
use Rattle.porch_typed.specs.declared.typed.Operator.{Operator}
use Rattle.porch_typed.specs.declared.typed.Expression as code_expression
use Rattle.porch_typed.specs.Mirror.{Expression, row, all_of, any_of, sequence}
use Rattle.porch_typed.specs.Views.{expression_of, expressions_of, steps_of}
use Rattle.porch_rows.specs.declared.parts.Parts as code_parts
use Rattle.porch_rows.specs.declared.parts.Parts.TheVariants as parts
use Rattle.porch_rows.specs.inside.Heads.{is_short}

-- a step of the code's row
abbrev pub step_of : Operator × code_expression.Expression → Operator × Expression
step_of x = (x.0, expression_of x.1)

abbrev pub parts_tree : code_parts.Parts → Expression
parts_tree (parts.Row e steps) = row (expression_of e) (steps_of (map step_of steps))
parts_tree (parts.AllOf e es) = all_of (expression_of e) (expressions_of (map expression_of es))
parts_tree (parts.AnyOf e es) = any_of (expression_of e) (expressions_of (map expression_of es))
parts_tree (parts.Sequence e es) = sequence (expression_of e) (expressions_of (map expression_of es))
parts_tree (parts.Other e) = expression_of e

-- what can be taken apart is
abbrev pub are_apart : code_parts.Parts → Bool
are_apart (parts.Other e) = is_short (expression_of e)
are_apart p = true
