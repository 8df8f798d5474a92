use Rattle.std.proofs.Common.{◌≡◌, ◌+◌, ◌-◌, ◌*◌, ◌<◌, drop, fold}
use Rattle.porch_syntax.specs.Token.{decimal_of}
use Rattle.porch_syntax.proofs.lexeme.constant.Given as goal

abbrev pub invariant-loop-c : goal.invariant-loop-c
invariant-loop-c l =
    (l.value < 2147483648) × (decimal_of l.lexeme ≡ fold (λ n c. 10 * n + (c - 48)) l.value (drop l.c-index l.lexeme))
