use Rattle.porch_walk.proofs.ShownUses.{unit_uses}
use Rattle.porch_walk.proofs.laws.each_unit_shows_its_uses.Goals as goal

pub returns : goal.returns
returns c = λ ts u h. unit_uses ts u h
