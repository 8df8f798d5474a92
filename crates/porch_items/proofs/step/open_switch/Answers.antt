use Rattle.std.proofs.Common.{◌∷◌, map, ap, ◌∙◌}
use Rattle.porch_tree.specs.Views.{expr_of, switch_entry_of}
use Rattle.porch_unit.specs.Units.{state, in_switch, at_statement}
use Rattle.porch_statements.specs.Shown.{items_of, frames_of}
use Rattle.porch_items.proofs.Results.{when_ok}
use Rattle.porch_items.proofs.step.open_switch.Goals as goal

pub returns : goal.returns
returns c =
    when_ok c.nest.result (λ x h text. h text ∙ ap (λ es. state (items_of text c.args.builder.now.items) (in_switch c.args.at (expr_of text c.args.value) (map (switch_entry_of text) es) ∷ (frames_of text c.args.builder.now.frames)) at_statement) c.new-entries.ensures) c.nest.ensures.nested
