use Rattle.std.proofs.Common.{◌∷◌, map, ap, ◌∙◌}
use Rattle.porch_parts.proofs.Voids.{when_ok}
use Rattle.porch_parts.proofs.Outermost.{on_top}
use Rattle.porch_lex.specs.Words.{spelled_token}
use Rattle.porch_tree.specs.Views.{param_of}
use Rattle.porch_parts.specs.Types.{in_params, base_step}
use Rattle.porch_parts.specs.Shown.{declaring_of, parts_of}
use Rattle.porch_parts.proofs.step.enter_list.Goals as goal

pub returns : goal.returns
returns c = when_ok c.base_next.result (λ p h text. h text
    ∙ ap (λ ps. base_step ps c.args.sign (spelled_token text c.args.token)) (ap (parts_of text) c.in_ok-push.ensures.ok ∙ on_top text c.args.parts.now _
    ∙ ap (λ xs. in_params (declaring_of text c.args.declaring) (map (param_of text) xs) ∷ parts_of text c.args.parts.now) c.new.ensures)) c.base_next.ensures
