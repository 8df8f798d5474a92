use Rattle.std.proofs.Common.{◌≡◌, ◌+◌, ◌*◌, ◌≤◌, drop, fold}
use Rattle.porch_lex.specs.Characters.{digit_value}
use Rattle.porch_lex.specs.Constants.{number_in}
use Rattle.porch_lex.proofs.constant.exceeds.Given as goal

abbrev pub invariant-loop-c : goal.invariant-loop-c
invariant-loop-c l =
    (l.number ≤ l.limit) × (number_in l.base l.digits ≡ fold (λ n c. l.base * n + digit_value c) l.number (drop l.c-index l.digits))
