use Rattle.std.proofs.Common.{◌≤◌, ◌-◌}
use Rattle.porch_types.specs.Leaves.{leaves_of}
use Rattle.porch_ucf.specs.inside.Runs.{AreRuns}
use Rattle.porch_ucf.proofs.runs.runs_of.Given as goal

abbrev pub invariant-runs : goal.invariant-runs
invariant-runs l = record {
  within : l.leaf ≤ leaves_of l.metrics.types l.root;
  all : AreRuns l.sought l.metrics.types l.root l.leaf l.runs.items;
}

abbrev pub decreases-runs : goal.decreases-runs
decreases-runs l = leaves_of l.metrics.types l.root - l.leaf
