use Rattle.std.proofs.Common.{[], ◌∷◌, ◌++◌, map, ap, sym, ◌∙◌}
use Rattle.porch_tree.specs.Mirror.{param}
use Rattle.porch_tree.specs.Views.{base_of, param_of}
use Rattle.porch_parts.specs.Types.{declared_by, is_void, param_ended}
use Rattle.porch_parts.specs.Shown.{declaring_of, parts_of}
use Rattle.porch_parts.proofs.Voids.{when_ok}
use Rattle.porch_parts.proofs.ended.end_last_param.Goals as goal

pub returns : goal.returns
returns c =
    when_ok c.add_param.result (λ p h text.
    h text (c.is_void-is_void.ensures text
    ∙ ap (λ b. is_void (map (param_of text) c.args.params ++ param (base_of text b) (declared_by (declaring_of text c.get-2.result.now)) ∷ [])) c.get.ensures
    ∙ ap (λ d. is_void (map (param_of text) c.args.params ++ param (base_of text c.args.base) (declared_by (declaring_of text d)) ∷ [])) c.get-2.ensures
    ∙ ap (λ x. is_void (map (param_of text) c.args.params ++ x ∷ [])) (sym (c.param_from-param.ensures text)))
    ∙ ap (λ x. param_ended (parts_of text c.args.parts.now) (declaring_of text c.args.outer) (map (param_of text) c.args.params ++ x ∷ []) c.args.sign) (c.param_from-param.ensures text)) c.add_param.ensures
