use Rattle.porch_rewrite.proofs.Runs.{means_made, means_plain}
use Rattle.porch_rewrite.proofs.laws.rewriting_keeps_the_meaning.Goals as goal

pub returns : goal.returns
returns c = λ flat under n m valid room. (means_made flat under n room m, means_plain c.runs_end.ensures c.runs_have_one_end.ensures flat under n m valid room)
