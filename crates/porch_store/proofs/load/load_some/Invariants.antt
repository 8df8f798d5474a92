use Rattle.std.proofs.Common.{◌≡◌, ◌≤◌, ◌-◌, length, take}
use Rattle.porch_edge.specs.Disk.{WhereTold, OnlyLooks}
use Rattle.porch_edge.specs.Files.{file_of}
use Rattle.porch_store.proofs.load.load_some.Given as goal

abbrev pub invariant-loop-filled : goal.invariant-loop-filled
invariant-loop-filled g l = record {
  within : l.filled ≤ length l.bytes.items;
  sized : length l.bytes.items ≡ l.count;
  done : WhereTold (g.D.Disk.state l.fn.disk) (λ fs. take l.filled l.bytes.items ≡ take l.filled (file_of l.file fs));
  looks : OnlyLooks (g.D.Disk.state l.fn.disk) (g.D.Disk.state l.disk);
  later : g.D.Disk.faults l.fn.disk ≤ g.D.Disk.faults l.disk;
}

abbrev pub decreases-loop-filled : goal.decreases-loop-filled
decreases-loop-filled g l = length l.bytes.items - l.filled
