use Rattle.porch_depth.proofs.Rising.{rises}
use Rattle.porch_depth.proofs.laws.what_is_shown_only_rises.Goals as goal

pub returns : goal.returns
returns c = λ ts rest. rises ts rest
