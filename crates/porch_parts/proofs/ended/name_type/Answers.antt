use Rattle.std.proofs.Common.{ap, ◌∙◌}
use Rattle.porch_tree.specs.Mirror.{type_name}
use Rattle.porch_tree.specs.Views.{base_of, declarator_of}
use Rattle.porch_parts.specs.Types.{over_type, place}
use Rattle.porch_parts.specs.Shown.{parts_of}
use Rattle.porch_parts.proofs.ended.name_type.Goals as goal

pub returns : goal.returns
returns c = λ text parts. ap (λ x. place (parts_of text parts) (over_type x)) (c.in_ok-name.ensures text
    ∙ ap (λ b. type_name (base_of text b) (declarator_of text c.declarator_from-declarator.result)) c.into_inner-base.ensures
    ∙ ap (λ d. type_name (base_of text c.args.base) d) (c.declarator_from-declarator.ensures text))
