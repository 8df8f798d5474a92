-- Those that are left decide.
use Rattle.std.proofs.Common.{◌≡◌, map, drop}
use Rattle.porch_check.specs.Units.{all_have_names}
use Rattle.porch_names.specs.Views.{as_parameter}
use Rattle.porch_functions.proofs.heads.have_names.Given as goal

abbrev pub invariant-loop-parameter : goal.invariant-loop-parameter
invariant-loop-parameter l =
    all_have_names (map as_parameter (drop l.parameter-index l.params)) ≡ all_have_names (map as_parameter l.params)
