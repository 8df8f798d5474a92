-- The types of a text that has ended are those of a program.
use Rattle.std.specs.Prelude.{◌≡◌}
use Rattle.porch_types.specs.Leaves.{IsTypes}
use Rattle.porch_check.specs.Shapes.{Shapes, first_shapes}
use Rattle.porch_check.specs.Sealing.{sealed_types}
use Rattle.porch_typing.specs.Ends.{End, IsEnd}
use Rattle.porch_numbering.specs.Lasts.{AreLast}

abbrev pub LastTypesAreTypes : Type 0
LastTypesAreTypes = (s : Shapes) → AreLast s → IsTypes (sealed_types s).types

abbrev pub LastTypesAreAnEnd : Type 0
LastTypesAreAnEnd = (w : End) → AreLast w.last → w.program.types ≡ (sealed_types w.last).types → IsEnd w

-- The types that a text begins with are what the last ones are asked to be.
abbrev pub FirstTypesMayBeLast : Type 0
FirstTypesMayBeLast = AreLast first_shapes
