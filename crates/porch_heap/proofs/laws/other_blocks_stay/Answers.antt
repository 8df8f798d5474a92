use Rattle.porch_heap.proofs.ComeAndGo.{more_from, more_iff, less_from, less_to}
use Rattle.porch_heap.proofs.laws.other_blocks_stay.Goals as goal

pub returns-clause-more : goal.returns-clause-more
returns-clause-more c = λ b other blocks. (more_from b other blocks, more_iff b other blocks)

pub returns-clause-less : goal.returns-clause-less
returns-clause-less c = λ at other blocks. (less_from at other blocks, λ s. less_to at other blocks s.0 s.1)
