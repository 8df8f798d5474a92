use Rattle.porch_ucf.proofs.Spelled.{files_spelled, flawless_good}
use Rattle.porch_ucf.proofs.laws.files_are_spelled.Goals as goal

pub returns-clause-spelled : goal.returns-clause-spelled
returns-clause-spelled c = files_spelled

pub returns-clause-good : goal.returns-clause-good
returns-clause-good c = flawless_good
