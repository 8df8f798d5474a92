use Rattle.porch_walk.proofs.Walks.{pending_at}
use Rattle.porch_walk.proofs.token_walk.TokenWalk.pending.Goals as goal

pub returns : goal.returns
returns c = λ s h. pending_at c.args.self.now s c.deref.result.now c.deref.ensures.value h
