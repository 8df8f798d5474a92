use Rattle.std.proofs.Common.{ap}
use Rattle.porch_tree.specs.Views.{stmt_of}
use Rattle.porch_unit.specs.Units.{state, at_parenthesis, to_repeat_behind}
use Rattle.porch_statements.specs.Shown.{items_of, frames_of}
use Rattle.porch_blocks.proofs.continued.end_do.Goals as goal

pub returns : goal.returns
returns c = λ text builder.
    ap (λ s. state (items_of text builder.items) (frames_of text builder.frames) (at_parenthesis (to_repeat_behind c.args.at (stmt_of text s)))) c.in_ok-body.ensures
