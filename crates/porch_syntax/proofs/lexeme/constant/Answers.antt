use Rattle.std.proofs.Common.{arith}
use Rattle.porch_syntax.proofs.Pieces.{too_great}
use Rattle.porch_syntax.proofs.lexeme.constant.Goals as goal

pub returns-then-value-ge2147483648 : goal.returns-then-value-ge2147483648
returns-then-value-ge2147483648 c =
    too_great c.args.lexeme.now c.loop-c.value c.loop-c.c-index (omega arith) c.loop-c.invariant.1 (omega (arith, c.saturating_sub.ensures))
