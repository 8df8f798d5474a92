use Rattle.std.proofs.Common.{◌≤◌}
use Rattle.porch_ucf.specs.Objects.{single}
use Rattle.porch_ucf.proofs.Walks.{Walked}
use Rattle.porch_ucf.proofs.placing.Placing.put_globals.Given as goal

abbrev pub invariant-loop-global : goal.invariant-loop-global
invariant-loop-global l = record {
  walked : Walked l.metrics.types (λ g. single g.ty) l.globals l.fn.self l.global-index l.self;
  within : l.self.end ≤ l.most;
}
