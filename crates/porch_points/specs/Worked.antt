-- `int b[3];`, which stands at address 16 in memory, and first in the data of a checkpoint.
use Rattle.std.specs.Prelude.{List, [], ◌∷◌}
use Rattle.porch_find.specs.declared.roots.Root.{Root}
use Rattle.porch_find.specs.Worked.{three_ints}

abbrev pub worked_addresses : List Root
worked_addresses = record { at = 16; ty = three_ints; count = 1 } ∷ []

abbrev pub worked_places : List Root
worked_places = record { at = 0; ty = three_ints; count = 1 } ∷ []
