-- What the check unfolds to compute a run, and the rules.
use Rattle.std.specs.Prelude.{⊤}
use Rattle.std.specs.Fmt.{digits}
use Rattle.porch_flat.specs.whole.Rewritten.{reaches_within}
use Rattle.porch_mean.specs.Mean.{enter_to}

unfoldable pub runs_compute : ⊤
unfolding enter_to digits reaches_within
runs_compute = tt
