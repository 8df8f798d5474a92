use Rattle.porch_metrics.proofs.Multiples.{round_multiple, round_after, round_least}
use Rattle.porch_metrics.proofs.laws.rounding_up_is_least.Goals as goal

pub returns-clause-multiple : goal.returns-clause-multiple
returns-clause-multiple c = λ place align some. round_multiple place align

pub returns-clause-after : goal.returns-clause-after
returns-clause-after c = λ place align some. round_after place align some

pub returns-clause-least : goal.returns-clause-least
returns-clause-least c = λ place align other some below multiple. round_least place align other some below multiple
