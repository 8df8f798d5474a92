-- What the code's constants are in the definitions.
use Rattle.porch_check.specs.Constants.{Folded, no_constant, undefined, known}
use Rattle.porch_constants.specs.declared.value.Folded as code_folded
use Rattle.porch_constants.specs.declared.value.Folded.TheVariants as folded

abbrev pub as_folded : code_folded.Folded → Folded
as_folded folded.NoConstant = no_constant
as_folded folded.Undefined = undefined
as_folded (folded.Known z) = known z
