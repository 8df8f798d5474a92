use Rattle.std.proofs.Common.{pos, sym, ap, ◌∙◌}
use Rattle.porch_types.specs.declared.shapes.Kind.TheVariants.{Int}
use Rattle.porch_values.specs.Integers.{signed_bits}
use Rattle.porch_lex.specs.Values.{character_of}
use Rattle.porch_typed.specs.Mirror.{constant}
use Rattle.porch_check.specs.Operands.{integer, operand, typed_as}
use Rattle.porch_leaves.proofs.constants.character.Goals as goal

pub returns : goal.returns
returns c at =
    sym (ap operand (
    c.char_constant.ensures
    ∙ ap (λ x. typed_as (constant Int (signed_bits 8 (pos x))) (integer Int))
    (c.character_of.ensures ∙ ap character_of c.behind_first.ensures)))
