-- What the code's types are in the definitions.
use Rattle.porch_shape.specs.declared.shape.Shape as code
use Rattle.porch_shape.specs.declared.shape.Shape.TheVariants as variant
use Rattle.porch_check.specs.Shapes.{Shape, void, whole, pointer, array, structure, function}

abbrev pub as_shape : code.Shape → Shape
as_shape variant.Void = void
as_shape (variant.Whole kind) = whole kind
as_shape (variant.Pointer to) = pointer to
as_shape (variant.Array of count) = array of count
as_shape (variant.Structure number) = structure number
as_shape (variant.Function result params) = function result params.items
