use Rattle.porch_heap.proofs.FirstGap.{gap_sound, gap_complete, none_sound, none_complete, test_sound, test_complete}
use Rattle.porch_heap.proofs.laws.first_gap_is_first.Goals as goal

pub returns-clause-some : goal.returns-clause-some
returns-clause-some c = λ h bytes align at heap some. (gap_sound h bytes align at heap some, gap_complete h bytes align at heap some)

pub returns-clause-none : goal.returns-clause-none
returns-clause-none c = λ h bytes align heap some. (none_sound h bytes align heap some, none_complete h bytes align heap some)

pub returns-clause-test : goal.returns-clause-test
returns-clause-test c = λ h bytes align heap some. (test_sound h bytes align heap some, test_complete h bytes align heap some)
