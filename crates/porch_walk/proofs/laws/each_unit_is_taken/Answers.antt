use Rattle.porch_walk.proofs.First.{unit_accepted}
use Rattle.porch_walk.proofs.laws.each_unit_is_taken.Goals as goal

pub returns : goal.returns
returns c = λ ts u h. let a = unit_accepted ts u h in record { last = a.last; run = a.run; ended = a.ended }
