-- Which forms are literals.
use Rattle.std.specs.Prelude.{Bool, true, false}
use Rattle.porch_check.specs.Operands.{Form, literal}

abbrev pub is_literal : Form → Bool
is_literal (literal bs) = true
is_literal f = false
