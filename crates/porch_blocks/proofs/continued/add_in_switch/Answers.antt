use Rattle.std.proofs.Common.{[], ◌∷◌, ◌++◌, map, ap, ◌∙◌}
use Rattle.porch_tree.specs.Views.{expr_of, switch_entry_of}
use Rattle.porch_unit.specs.Units.{in_switch}
use Rattle.porch_statements.specs.Shown.{frames_of}
use Rattle.porch_blocks.proofs.Stacks.{when_both, map_more}
use Rattle.porch_blocks.proofs.continued.add_in_switch.Goals as goal

pub returns : goal.returns
returns c =
    when_both c.push_filled.result c.push-filled.result c.push_filled.ensures.filled c.push-filled.ensures.ok c.push_filled.ensures.pushed (λ x e h text. h text
    ∙ ap (λ ys. in_switch c.args.at (expr_of text c.args.value) ys ∷ (frames_of text c.args.frames.now)) (ap (map (switch_entry_of text)) e ∙ map_more (switch_entry_of text) c.args.entries c.entry_of.result
    ∙ ap (λ y. map (switch_entry_of text) c.args.entries ++ y ∷ []) (c.entry_of.ensures text)))
