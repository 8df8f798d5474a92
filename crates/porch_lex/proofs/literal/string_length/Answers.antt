use Rattle.std.proofs.Common.{◌≡◌, Some, drop, sym, ap, ◌∙◌, arith, length-drop}
use Rattle.porch_lex.specs.Literals.{character_length}
use Rattle.porch_lex.proofs.Lengths.{string_goes}
use Rattle.porch_lex.proofs.Tests.{code_differs}
use Rattle.porch_lex.proofs.Within.{found, character_within}
use Rattle.porch_lex.proofs.literal.string_length.Goals as goal

pub loop-at-preserved : goal.loop-at-preserved
loop-at-preserved c =
    let is : Some c.in-Some.count ≡ character_length 34 (drop c.loop-at.at c.args.text.now) =
    sym c.in-Some.is ∙ c.character_length.ensures ∙ ap (character_length 34) c.rest_from.ensures in
    let few = found _ _ _ is (character_within 34 (drop c.loop-at.at c.args.text.now)) in
    let some = few.0 in
    let rest = few.1 in
    let long = length-drop c.loop-at.at c.args.text.now in
    (omega (arith, rest, long), string_goes c.args.text.now c.loop-at.at c.in-Some.count c.loop-at-test.true (code_differs _ 34 c.if-text-at-eq34.false) is some c.loop-at.invariant.1)
