use Rattle.std.proofs.Common.{ap}
use Rattle.porch_parts.specs.Ends.{found_declared}
use Rattle.porch_parts.proofs.found.found_declarator.Goals as goal

pub returns : goal.returns
returns c = λ text frames parts. ap found_declared (c.declarator_from-declarator.ensures text)
