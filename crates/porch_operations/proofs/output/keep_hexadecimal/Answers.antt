use Rattle.std.proofs.Common.{◌≡◌, ◌<◌, ℕ, ◌+◌, ◌-◌, ◌/◌, ◌%◌, List, ◌∷◌, length, ap, ◌∙◌, arith, false}
use Rattle.std.specs.Fmt.{digits_onto, digit_glyph}
use Rattle.porch_operations.proofs.Hexadecimal.{goes_on}
use Rattle.porch_operations.proofs.output.keep_hexadecimal.Goals as goal

pub loop-left-preserved : goal.loop-left-preserved
loop-left-preserved c =
    let text : c.put_first.new.shown.items ≡ digit_glyph false (c.loop-left.left % 16) ∷ c.loop-left.shown.items =
    c.put_first.ensures.text ∙ ap (λ (d : ℕ). d ∷ c.loop-left.shown.items) c.digit.ensures in
    let longer : length c.put_first.new.shown.items ≡ length c.loop-left.shown.items + 1 = ap (λ (xs : List ℕ). length xs) text ∙ omega arith in
    let few : length c.loop-left.shown.items + 1 < 64 = omega (arith, c.loop-left.invariant.count_is, c.if-count-lt63.true) in
    record {
      same = ap (λ (xs : List ℕ). digits_onto (64 - length c.put_first.new.shown.items) 16 false (c.loop-left.left / 16) xs) text
          ∙ ap (λ (k : ℕ). digits_onto (64 - k) 16 false (c.loop-left.left / 16) (digit_glyph false (c.loop-left.left % 16) ∷ c.loop-left.shown.items)) longer
          ∙ goes_on (length c.loop-left.shown.items) c.loop-left.left c.loop-left.shown.items c.loop-left-test.true few
          ∙ c.loop-left.invariant.same;
      count_is = omega (arith, c.loop-left.invariant.count_is, longer);
      few = omega (arith, longer, few);
      room = omega (arith, c.loop-left.invariant.room, c.put_first.ensures.room);
    }
