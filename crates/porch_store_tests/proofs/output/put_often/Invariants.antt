use Rattle.porch_output.specs.Outputs.{IsSpent, IsReady}
use Rattle.porch_store_tests.proofs.output.put_often.Given as goal

abbrev pub invariant-loop-i : goal.invariant-loop-i
invariant-loop-i g l = (¬ IsSpent l.output) × IsReady l.output (g.D.Disk.state l.disk)
