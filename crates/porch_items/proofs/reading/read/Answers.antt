use Rattle.std.proofs.Common.{ap, ◌∙◌}
use Rattle.porch_unit.specs.Units.{unit_in}
use Rattle.porch_items.proofs.reading.read.Goals as goal

pub returns-in-Ok : goal.returns-in-Ok
returns-in-Ok c = c.tree_at.ensures c.args.text.now ∙ ap unit_in c.in-Ok.ensures
