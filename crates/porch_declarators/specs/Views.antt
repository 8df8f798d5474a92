-- What the code's parts of declarators are in the definitions.
use Rattle.std.specs.Prelude.{map}
use Rattle.porch_check.specs.Declarations.{Part, star, counted, listed}
use Rattle.porch_scopes.specs.Views.{scope_of}
use Rattle.porch_names.specs.Views.{as_parameter}
use Rattle.porch_declarators.specs.declared.part.Part as code_part
use Rattle.porch_declarators.specs.declared.part.Part.TheVariants as variant

abbrev pub as_part : code_part.Part → Part
as_part (variant.Star at) = star at
as_part (variant.Counted at count) = counted at count
as_part (variant.Listed at params scope) = listed at (map as_parameter params.items) (scope_of scope)
