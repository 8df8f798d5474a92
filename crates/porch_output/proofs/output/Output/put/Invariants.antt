use Rattle.std.proofs.Common.{◌≡◌, ◌+◌, ◌-◌, ◌≤◌, ◌++◌, ℕ, List, length, take}
use Rattle.porch_edge.specs.Disk.{BothTell}
use Rattle.porch_output.specs.Outputs.{text_of, length_of, IsSpent, IsReady, LeavesBeginning, KeepsBeginning}
use Rattle.porch_output.proofs.output.Output.put.Given as goal

abbrev pub invariant-loop-taken : goal.invariant-loop-taken
invariant-loop-taken g l = record {
  within : l.taken ≤ length l.bytes;
  usable : ¬ IsSpent l.self;
  ready : IsReady l.self (g.D.Disk.state l.disk);
  text : BothTell (g.D.Disk.state l.fn.disk).files (g.D.Disk.state l.disk).files (λ fs gs. text_of l.self gs ≡ text_of l.fn.self fs ++ take l.taken l.bytes);
  size : length_of l.self ≡ length_of l.fn.self + l.taken;
  keeps : (kept : List ℕ) → LeavesBeginning kept (g.D.Disk.state l.fn.disk) → KeepsBeginning kept (g.D.Disk.state l.fn.disk) (g.D.Disk.state l.disk);
  later : g.D.Disk.faults l.fn.disk ≤ g.D.Disk.faults l.disk;
}

abbrev pub decreases-loop-taken : goal.decreases-loop-taken
decreases-loop-taken g l = length l.bytes - l.taken
