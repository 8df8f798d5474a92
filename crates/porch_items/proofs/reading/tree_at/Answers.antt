use Rattle.std.proofs.Common.{if◌then◌else◌, Some, None, ap, ◌∙◌}
use Rattle.porch_statements.specs.Shown.{items_of}
use Rattle.porch_items.proofs.Readings.{unit_at}
use Rattle.porch_items.proofs.reading.tree_at.Goals as goal

pub returns : goal.returns
returns c = λ text. c.tree_of.ensures text
    ∙ ap (λ b. if b then Some (items_of text c.args.builder.items) else None) (c.ends_here-over.ensures text c.args.builder)
    ∙ unit_at text c.args.builder c.args.point
