use Rattle.std.proofs.Common.{ap, ◌∙◌}
use Rattle.porch_tree.specs.Mirror.{choose_else}
use Rattle.porch_tree.specs.Views.{expr_of, stmt_of}
use Rattle.porch_blocks.proofs.Choices.{with_else}
use Rattle.porch_blocks.proofs.build.choose_else.Goals as goal

pub returns-in-Ok : goal.returns-in-Ok
returns-in-Ok c = λ text. with_else text c.args.at c.args.condition c.args.chosen c.in-Ok.other
    ∙ ap (λ s. choose_else c.args.at (expr_of text c.args.condition) (stmt_of text c.args.chosen) (stmt_of text s)) c.in-Ok.ensures
