use Rattle.std.proofs.Common.{ap, ◌∙◌}
use Rattle.porch_tree.specs.Mirror.{param}
use Rattle.porch_tree.specs.Views.{base_of, declarator_of}
use Rattle.porch_parts.proofs.ended.param_from.Goals as goal

pub returns : goal.returns
returns c = λ text. c.plain_param.ensures text
    ∙ ap (λ b. param (base_of text b) (declarator_of text c.declarator_from-declarator.result)) c.into_inner-base.ensures
    ∙ ap (λ d. param (base_of text c.args.base) d) (c.declarator_from-declarator.ensures text)
