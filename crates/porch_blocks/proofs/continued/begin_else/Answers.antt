use Rattle.std.proofs.Common.{◌∷◌, ap, ◌∙◌}
use Rattle.porch_tree.specs.Views.{expr_of, stmt_of}
use Rattle.porch_unit.specs.Units.{state, behind_else, at_statement}
use Rattle.porch_statements.specs.Shown.{items_of, frames_of}
use Rattle.porch_blocks.proofs.Stacks.{when_ok}
use Rattle.porch_blocks.proofs.continued.begin_else.Goals as goal

pub returns-in-Ok : goal.returns-in-Ok
returns-in-Ok c =
    when_ok c.nest.result (λ x h text. h text ∙ ap (λ s. state (items_of text c.args.builder.now.items) (behind_else c.args.at (expr_of text c.args.condition) (stmt_of text s) ∷ (frames_of text c.args.builder.now.frames)) at_statement) c.in-Ok.ensures) c.nest.ensures.nested
