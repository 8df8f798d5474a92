-- The tree of expressions with commas between them. The first comma makes a sequence, and each further one makes that
-- longer.
use Rattle.std.specs.Prelude.{Bool, true}
use Rattle.porch_typed.specs.Mirror.{Expression, sequence, no_expressions, with_expression}
use Rattle.porch_check.specs.Operators.{with_last}

abbrev pub sequence_tree : (begun : Bool) → Expression → Expression → Expression
sequence_tree true (sequence e es) y = sequence e (with_last es y)
sequence_tree begun e y = sequence e (with_expression y no_expressions)
