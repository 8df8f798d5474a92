use Rattle.std.proofs.Common.{◌∷◌, ap, ◌∙◌}
use Rattle.porch_tree.specs.Views.{expr_of}
use Rattle.porch_unit.specs.Units.{in_switch}
use Rattle.porch_statements.specs.Shown.{frames_of}
use Rattle.porch_statements.proofs.Stacks.{when_both}
use Rattle.porch_statements.proofs.given.add_label.Goals as goal

pub returns : goal.returns
returns c =
    when_both c.push_filled.result c.push_entry-filled.result c.push_filled.ensures.filled c.push_entry-filled.ensures c.push_filled.ensures.pushed (λ x e h text. h text
    ∙ ap (λ es. in_switch c.args.switch (expr_of text c.args.value) es ∷ frames_of text c.args.frames.now) (e text))
