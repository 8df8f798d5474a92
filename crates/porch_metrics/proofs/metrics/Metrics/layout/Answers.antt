use Rattle.porch_metrics.proofs.metrics.Metrics.layout.Goals as goal

pub returns-clause-allowed : goal.returns-clause-allowed
returns-clause-allowed c = rw (← c.self.view_is) c.self.invariant.native_table.layout
