use Rattle.std.proofs.Common.{◌<◌, length, rules}
use Rattle.porch_declarators.specs.declared.part.Part.TheVariants as variant
use Rattle.porch_functions.proofs.FirstParts.{first_part}
use Rattle.porch_functions.proofs.heads.into_list.Goals as goal

pub returns-in-Listed : goal.returns-in-Listed
returns-in-Listed c =
    let some : 0 < length c.args.parts.items = search rules in
    let first = first_part c.args.parts.items (variant.Listed c.in-Listed.field-0 c.in-Listed.params c.in-Listed.scope) some
    c.in-Listed.ensures.value in
    (c.in-Listed.field-0, first)
