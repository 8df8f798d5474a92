use Rattle.porch_ucf.proofs.OneFlaw.{no_flaw, one_flaw}
use Rattle.porch_ucf.proofs.laws.first_flaws_are_one.Goals as goal

pub returns-clause-flawless : goal.returns-clause-flawless
returns-clause-flawless c = no_flaw

pub returns-clause-one : goal.returns-clause-one
returns-clause-one c = one_flaw
