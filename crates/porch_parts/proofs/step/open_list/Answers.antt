use Rattle.std.proofs.Common.{[], ◌∷◌, ap, ◌∙◌}
use Rattle.porch_parts.proofs.Voids.{when_ok}
use Rattle.porch_lex.specs.Words.{spelled_token}
use Rattle.porch_parts.specs.Types.{in_params, base_step}
use Rattle.porch_parts.specs.Shown.{parts_of}
use Rattle.porch_parts.proofs.step.open_list.Goals as goal

pub returns : goal.returns
returns c = when_ok c.enter_list.result (λ p h text. h text ∙ ap (λ d. base_step (in_params d [] ∷ parts_of text c.args.parts.now) c.args.sign (spelled_token text c.args.token)) (c.in_ok-declaring.ensures text)) c.enter_list.ensures
