use Rattle.porch_live.proofs.store.Store.end_block.Goals as goal

pub invariant_of-self : goal.invariant_of-self
invariant_of-self c = record {
  calls_rising = c.self.invariant.calls_rising;
  calls_made = c.self.invariant.calls_made;
  blocks_rising = c.end_block-self-inside.ensures.rising;
  blocks_made = c.end_block-self-inside.ensures.below _ c.self.invariant.blocks_made;
}
