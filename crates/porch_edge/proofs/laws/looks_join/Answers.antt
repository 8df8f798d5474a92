use Rattle.porch_edge.specs.Runs.{looks_join}
use Rattle.porch_edge.proofs.laws.looks_join.Goals as goal

pub returns : goal.returns
returns g c = λ s t u first second. looks_join (g.D.Disk.state s) (g.D.Disk.state t) (g.D.Disk.state u) first second
