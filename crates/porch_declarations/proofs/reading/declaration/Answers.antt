use Rattle.std.proofs.Common.{◌∙◌}
use Rattle.porch_declarations.proofs.Results.{when_ok}
use Rattle.porch_declarations.proofs.reading.declaration.Goals as goal

pub returns : goal.returns
returns c = record { read = when_ok c.read.result (λ found h inside d uses w y m. h ∙ c.declarations_are_built.ensures.built _ inside d w y uses _ m) c.read.ensures }
