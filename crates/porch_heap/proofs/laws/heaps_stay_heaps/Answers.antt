use Rattle.porch_heap.proofs.ComeAndGo.{heap_more, heap_less}
use Rattle.porch_heap.proofs.laws.heaps_stay_heaps.Goals as goal

pub returns-clause-more : goal.returns-clause-more
returns-clause-more c = heap_more

pub returns-clause-less : goal.returns-clause-less
returns-clause-less c = heap_less
