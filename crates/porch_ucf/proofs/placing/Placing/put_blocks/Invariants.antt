use Rattle.std.proofs.Common.{◌≤◌, ◌∷◌, []}
use Rattle.porch_ucf.proofs.Walks.{Walked}
use Rattle.porch_ucf.proofs.placing.Placing.put_blocks.Given as goal

abbrev pub invariant-loop-block : goal.invariant-loop-block
invariant-loop-block l = record {
  walked : Walked l.metrics.types (λ block. block ∷ []) l.blocks l.fn.self l.block-index l.self;
  within : l.self.end ≤ l.most;
}
