use Rattle.porch_flat.proofs.Faults.{valid_when_none, broken_when_some}
use Rattle.porch_flat.proofs.whole.laws.the_search_finds_the_first.Goals as goal

pub returns-clause-valid : goal.returns-clause-valid
returns-clause-valid c = valid_when_none

pub returns-clause-broken : goal.returns-clause-broken
returns-clause-broken c = broken_when_some
