use Rattle.std.proofs.Common.{◌≡◌, ◌-◌, ◌≤◌, drop, length, Some, sym, ap, ◌∙◌, arith, length-drop}
use Rattle.porch_lex.specs.Literals.{character_length}
use Rattle.porch_lex.proofs.Within.{found, character_within}
use Rattle.porch_lex.proofs.value.behind_character.Goals as goal

pub rest_from-requires : goal.rest_from-requires
rest_from-requires c =
    let is : Some c.in-Some.count ≡ character_length 34 c.args.text.now = sym c.in-Some.is ∙ c.character_length.ensures in
    let few = found _ _ _ is (character_within 34 c.args.text.now) in
    let most : c.in-Some.count ≤ length c.args.text.now = few.1 in
    let rest : length c.behind_first-rest.result.now ≡ length c.args.text.now - 1 =
    ap length c.behind_first-rest.ensures ∙ length-drop 1 c.args.text.now in
    omega (arith, most, rest)
