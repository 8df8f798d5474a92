use Rattle.porch_output.specs.Others.{ready_kept, beginning_kept, begins_kept}
use Rattle.porch_output.proofs.laws.output_stays.Goals as goal

pub returns-clause-ready : goal.returns-clause-ready
returns-clause-ready g c = λ output s t. ready_kept output (g.D.Disk.state s) (g.D.Disk.state t)

pub returns-clause-leaves : goal.returns-clause-leaves
returns-clause-leaves g c = λ kept s t. beginning_kept kept (g.D.Disk.state s) (g.D.Disk.state t)

pub returns-clause-begins : goal.returns-clause-begins
returns-clause-begins g c = λ kept mark s t. begins_kept kept mark (g.D.Disk.state s) (g.D.Disk.state t) (g.met.D.Disk.counts_now s)
