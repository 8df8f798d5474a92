use Rattle.std.proofs.Common.{ℕ, ◌+◌, ◌*◌, ◌<◌, subst, arith}
use Rattle.porch_lex.proofs.Numbers.{too_great}
use Rattle.porch_lex.proofs.constant.exceeds.Goals as goal

pub returns-then-number-limit : goal.returns-then-number-limit
returns-then-number-limit c =
    let P : ℕ → Type 0 = λ d. c.args.limit < c.args.base * c.loop-c.number + d in
    too_great c.args.base c.args.limit c.args.digits.now c.loop-c.number c.loop-c.c-index c.requires.low (omega arith) c.loop-c.invariant.1
    (subst P c.digit_value.ensures.value c.if-number-limit.true)
