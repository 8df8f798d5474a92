use Rattle.std.proofs.Common.{ap, ◌∙◌}
use Rattle.porch_parts.proofs.Voids.{when_ok}
use Rattle.porch_parts.specs.Types.{declared, declared_by}
use Rattle.porch_parts.specs.Shown.{parts_of}
use Rattle.porch_parts.proofs.step.end_bare.Goals as goal

pub returns : goal.returns
returns c = when_ok c.end_declarator.result (λ p h text. h text ∙ ap (λ d. declared (parts_of text c.args.parts.now) (declared_by d) c.args.sign) (c.in_ok-declaring.ensures text)) c.end_declarator.ensures
