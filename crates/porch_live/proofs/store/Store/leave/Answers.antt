use Rattle.porch_live.proofs.store.Store.leave.Goals as goal

pub invariant_of-self : goal.invariant_of-self
invariant_of-self c = record {
  calls_rising = c.remove_last.ensures.rising 0 c.self.invariant.calls_rising;
  calls_made = c.remove_last.ensures.below _ c.self.invariant.calls_made;
  blocks_rising = c.self.invariant.blocks_rising;
  blocks_made = c.self.invariant.blocks_made;
}
