use Rattle.std.proofs.Common.{IsTrue}
use Rattle.porch_edge.specs.Runs.{touches_join}
use Rattle.porch_edge.proofs.laws.runs_join.Goals as goal

pub returns : goal.returns
returns g c = λ s t u file test holds enough first second.
    touches_join (g.D.Disk.state s) (g.D.Disk.state t) (g.D.Disk.state u) file (λ old x. IsTrue (test old x)) (λ x. IsTrue (holds x)) enough first second
