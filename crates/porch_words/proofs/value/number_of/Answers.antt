use Rattle.std.proofs.Common.{◌≡◌, ◌⊎◌, ◌∙◌, ◌<◌, ◌≤◌, length, sym, ap, inl, inr, arith}
use Rattle.std.proofs.lemmas.Bool.Decides.{nat_tests}
use Rattle.porch_words.specs.declared.value.TheConstants.{MOST_DIGITS}
use Rattle.porch_words.specs.inside.Reading.{number_of}
use Rattle.porch_words.proofs.Digits.{number_is, number_is_none}
use Rattle.porch_words.proofs.value.number_of.Goals as goal

pub returns-then-is_empty-clause-number : goal.returns-then-is_empty-clause-number
returns-then-is_empty-clause-number c =
    let empty = c.is_empty.ensures in
    let out : (length c.as_bytes-digits.result.now ≡ 0) ⊎ (MOST_DIGITS < length c.as_bytes-digits.result.now) = elim c.then-is_empty.either [ inl e ↦ inl (grind (arith, nat_tests)) | inr e ↦ inr e.1 ] in
    sym (number_is_none c.args.least c.args.most c.args.word.now (rw c.as_bytes-digits.ensures.value at out))

pub returns-clause-number : goal.returns-clause-number
returns-clause-number c =
    let empty = c.is_empty.ensures in
    let full = c.if-is_empty.false in
    let some : 1 ≤ length c.as_bytes-digits.result.now = grind (arith, nat_tests) in
    let is = number_is c.args.least c.args.most c.as_bytes-digits.result.now c.requires some c.if-digits-gt-MOST_DIGITS.false in
    c.number_within.ensures.number ∙ is ∙ ap (λ w. number_of c.args.least c.args.most w) c.as_bytes-digits.ensures.value
