use Rattle.std.proofs.Common.{IsTrue}
use Rattle.porch_edge.specs.Others.{spares_reads, spares_both, spares_leaves, spares_settled, spares_front}
use Rattle.porch_edge.proofs.laws.spares_keep.Goals as goal

pub returns-clause-reads : goal.returns-clause-reads
returns-clause-reads g c = λ s t file test holds run. spares_reads (g.D.Disk.state s) (g.D.Disk.state t) file (λ x. IsTrue (test x)) holds run

pub returns-clause-both : goal.returns-clause-both
returns-clause-both g c = λ s t one other test holds first second. spares_both (g.D.Disk.state s) (g.D.Disk.state t) one other (λ x y. IsTrue (test x y)) holds first second

pub returns-clause-leaves : goal.returns-clause-leaves
returns-clause-leaves g c = λ s t file test holds run. spares_leaves (g.D.Disk.state s) (g.D.Disk.state t) file (λ x y. IsTrue (test x y)) holds run

pub returns-clause-settled : goal.returns-clause-settled
returns-clause-settled g c = λ s t file settled run. spares_settled (g.D.Disk.state s) (g.D.Disk.state t) file settled run

pub returns-clause-front : goal.returns-clause-front
returns-clause-front g c = λ s t file front run. spares_front (g.D.Disk.state s) (g.D.Disk.state t) file front run
