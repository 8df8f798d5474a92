-- The types so far are those of the parameters so far.
use Rattle.std.proofs.Common.{◌≡◌, map, take}
use Rattle.porch_check.specs.Declarations as declarations
use Rattle.porch_names.specs.Views.{as_parameter}
use Rattle.porch_names.proofs.parameters.types_of.Given as goal

abbrev pub invariant-loop-parameter : goal.invariant-loop-parameter
invariant-loop-parameter l =
    l.types.items ≡ map (λ (p : declarations.Parameter). p.shape) (map as_parameter (take l.parameter-index l.params))
