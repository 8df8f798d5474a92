-- Which forms are places.
use Rattle.std.specs.Prelude.{Bool, true, false}
use Rattle.porch_check.specs.Operands.{Form, place}

abbrev pub is_place : Form → Bool
is_place (place p n) = true
is_place f = false
