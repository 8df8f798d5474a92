-- What the check unfolds to compute a run.
use Rattle.std.specs.Prelude.{⊤}
use Rattle.std.specs.Fmt.{digits}
use Rattle.porch_mean.specs.Mean.{enter_to}

unfoldable pub runs_compute : ⊤
unfolding enter_to digits
runs_compute = tt
