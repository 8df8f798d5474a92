use Rattle.porch_live.proofs.store.Store.put_variables.Goals as goal

pub invariant_of-self : goal.invariant_of-self
invariant_of-self c = record {
  calls_rising = c.put_last.ensures.rising _ c.self.invariant.calls_rising;
  calls_made = c.put_last.ensures.below _ c.self.invariant.calls_made;
  blocks_rising = c.self.invariant.blocks_rising;
  blocks_made = c.self.invariant.blocks_made;
}
