-- Sets of widths of long within others.
use Rattle.std.specs.Prelude.{IsTrue, ◌||◌}
use Rattle.porch_values.specs.declared.widths.Widths.{Widths}

-- at least one width, each of which is one of the others
pub record AreWithin (fewer widths : Widths) : Type 0 where
  pub some : IsTrue (fewer.narrow || fewer.wide)
  pub narrow : IsTrue fewer.narrow → IsTrue widths.narrow
  pub wide : IsTrue fewer.wide → IsTrue widths.wide
