use Rattle.std.proofs.Common.{ap, ◌∙◌}
use Rattle.porch_tree.specs.Mirror.{choose}
use Rattle.porch_tree.specs.Views.{expr_of, stmt_of}
use Rattle.porch_blocks.proofs.Choices.{without_else}
use Rattle.porch_blocks.proofs.build.choose.Goals as goal

pub returns-in-Ok : goal.returns-in-Ok
returns-in-Ok c = λ text. without_else text c.args.at c.args.condition c.in-Ok.chosen
    ∙ ap (λ s. choose c.args.at (expr_of text c.args.condition) (stmt_of text s)) c.in-Ok.ensures
