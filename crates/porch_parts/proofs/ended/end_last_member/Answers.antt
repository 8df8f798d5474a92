use Rattle.std.proofs.Common.{[], ◌∷◌, ◌++◌, map, ap, ◌∙◌}
use Rattle.std.specs.Option.{option_map}
use Rattle.porch_tree.specs.Views.{name_of, base_of, field_of, declarator_of}
use Rattle.porch_parts.specs.Types.{member_ended}
use Rattle.porch_parts.specs.Shown.{parts_of}
use Rattle.porch_parts.proofs.Voids.{when_ok}
use Rattle.porch_parts.proofs.ended.end_last_member.Goals as goal

pub returns : goal.returns
returns c =
    when_ok c.add_member.result (λ p h text. h text
    ∙ ap (λ d. member_ended (parts_of text c.args.parts.now) c.args.front (option_map (name_of text) c.args.tag) (map (field_of text) c.args.fields) (base_of text c.args.base) (map (declarator_of text) c.args.declarators ++ d ∷ []) c.args.sign) (c.declarator_from-declarator.ensures text)) c.add_member.ensures
