use Rattle.std.proofs.Common.{◌∙◌}
use Rattle.porch_items.proofs.Results.{when_ok}
use Rattle.porch_items.proofs.reading.unit.Goals as goal

pub returns : goal.returns
returns c = record { read = when_ok c.read.result (λ found h u d. h ∙ c.each_unit_is_built.ensures.built _ u d) c.read.ensures }
