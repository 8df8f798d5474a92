use Rattle.std.proofs.Common.{ap, ◌∙◌, sym}
use Rattle.porch_tree.specs.Views.{stmt_of}
use Rattle.porch_statements.specs.Shown.{frames_of}
use Rattle.porch_blocks.specs.inside.Ended.{ended_one}
use Rattle.porch_blocks.proofs.Stacks.{left_with, on_top, when_ok}
use Rattle.porch_blocks.proofs.ended.end_innermost.Goals as goal

pub returns-in-None-clause-ended : goal.returns-in-None-clause-ended
returns-in-None-clause-ended c = λ text. ap (λ fs. ended_one (frames_of text fs) (stmt_of text c.args.statement)) c.in-None.ensures.0
    ∙ ap (λ fs. left_with (frames_of text fs) (stmt_of text c.args.statement)) (sym c.in-None.ensures.1)

pub returns-in-Some-clause-ended : goal.returns-in-Some-clause-ended
returns-in-Some-clause-ended c =
    when_ok c.build.result (λ s h text. ap (λ fs. ended_one fs (stmt_of text c.args.statement)) (ap (frames_of text) c.in-Some.ensures ∙ on_top text c.pop.new.self c.in-Some.frame)
    ∙ ap (left_with (frames_of text c.pop.new.self)) (sym (h text))) c.build.ensures
