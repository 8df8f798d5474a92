use Rattle.std.proofs.Common.{rules, ◌≡◌, ◌*◌, false, true, ap, ◌∙◌, sym, subst}
use Rattle.porch_values.specs.Integers.{in_range}
use Rattle.porch_ucf.specs.declared.fault.ImageFault.TheVariants.{TooNarrow}
use Rattle.porch_ucf.specs.DataFlaws.{long_value}
use Rattle.porch_ucf.specs.Fields.{u64_in}
use Rattle.porch_ucf.proofs.leaf_test.room_failure.Goals as goal

pub returns-else-is_in_range-clause-some : goal.returns-else-is_in_range-clause-some
returns-else-is_in_range-clause-some c =
    let kind = c.args.kind in
    let word = u64_in c.args.image.now.bytes c.args.place in
    let value : c.long_value-value.result ≡ long_value kind word = c.long_value-value.ensures c.requires.long ∙ ap (long_value kind) c.word_at.ensures in
    let wide : in_range kind (8 * c.args.width) c.long_value-value.result ≡ false = search (rules, c.is_in_range.ensures, c.if-is_in_range.false) in
    let narrow : c.too_narrow.result ≡ TooNarrow c.long_value-value.result c.data_place.result = search (rules, c.too_narrow.ensures) in (
      subst (λ z. in_range kind (8 * c.args.width) z ≡ false) value wide,
      narrow ∙ ap (λ z. TooNarrow z c.data_place.result) value ∙ ap (TooNarrow (long_value kind word)) c.data_place.ensures,
    )
