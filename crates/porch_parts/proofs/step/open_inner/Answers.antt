use Rattle.std.proofs.Common.{ap, ◌∙◌}
use Rattle.porch_parts.proofs.Voids.{when_ok}
use Rattle.porch_parts.proofs.Outermost.{on_top}
use Rattle.porch_lex.specs.Words.{spelled_token}
use Rattle.porch_parts.specs.Types.{declarator_step}
use Rattle.porch_parts.specs.Shown.{parts_of}
use Rattle.porch_parts.proofs.step.open_inner.Goals as goal

pub returns : goal.returns
returns c = when_ok c.declarator_next.result (λ p h text. h text
    ∙ ap (λ ps. declarator_step ps c.args.sign (spelled_token text c.args.token)) (ap (parts_of text) c.in_ok-push.ensures.ok ∙ on_top text c.args.parts.now _)) c.declarator_next.ensures
