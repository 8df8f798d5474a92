use Rattle.std.proofs.Common.{ap, ◌∙◌, sym}
use Rattle.porch_tree.specs.Views.{expr_of}
use Rattle.porch_parse.specs.Shown.{frames_of, ended}
use Rattle.porch_parse.proofs.Frames.{on_top, when_ok}
use Rattle.porch_parse.proofs.frame.end_innermost.Goals as goal

pub returns-in-Some-clause-ended : goal.returns-in-Some-clause-ended
returns-in-Some-clause-ended c =
    when_ok c.build.result (λ e h text. ap (λ fs. ended fs (expr_of text c.args.value)) (ap (frames_of text) c.in-Some.ensures ∙ on_top text c.pop.new.self c.in-Some.frame)
    ∙ ap (λ v. record { frames = frames_of text c.pop.new.self; value = v }) (sym (h text))) c.build.ensures
