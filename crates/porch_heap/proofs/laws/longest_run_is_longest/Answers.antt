use Rattle.porch_heap.proofs.FirstGap.{run_sound, run_complete, full_sound, full_complete}
use Rattle.porch_heap.proofs.laws.longest_run_is_longest.Goals as goal

pub returns-clause-run : goal.returns-clause-run
returns-clause-run c = λ h count heap. (run_complete h count heap, run_sound h count heap)

pub returns-clause-fault : goal.returns-clause-fault
returns-clause-fault c = λ h bytes fault heap. (full_complete h bytes fault heap, full_sound h bytes fault heap)
