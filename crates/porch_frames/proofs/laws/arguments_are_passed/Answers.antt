use Rattle.porch_frames.proofs.ArgumentsPass.{arguments_passed}
use Rattle.porch_frames.proofs.laws.arguments_are_passed.Goals as goal

pub returns : goal.returns
returns c = arguments_passed c.scopes_are_of_functions.ensures.cells
