use Rattle.porch_edge.specs.Others.{spares_join}
use Rattle.porch_edge.proofs.laws.spares_join.Goals as goal

pub returns : goal.returns
returns g c = λ s t u file first second. spares_join (g.D.Disk.state s) (g.D.Disk.state t) (g.D.Disk.state u) file first second
