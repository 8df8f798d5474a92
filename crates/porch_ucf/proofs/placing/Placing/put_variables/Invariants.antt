use Rattle.std.proofs.Common.{◌≤◌}
use Rattle.porch_ucf.specs.Objects.{single}
use Rattle.porch_ucf.proofs.Walks.{Walked}
use Rattle.porch_ucf.proofs.placing.Placing.put_variables.Given as goal

abbrev pub invariant-loop-ty : goal.invariant-loop-ty
invariant-loop-ty l = record {
  walked : Walked l.metrics.types (single) l.tys l.fn.self l.ty-index l.self;
  within : l.self.end ≤ l.most;
}
