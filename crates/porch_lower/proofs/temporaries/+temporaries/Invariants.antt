use Rattle.std.proofs.Common.{◌≡◌, ◌-◌, ◌^◌, max, min, drop}
use Rattle.porch_lower.specs.Code.{factors_temps, terms_temps}
use Rattle.porch_lower.proofs.Expressions.{row, term_row}
use Rattle.porch_lower.proofs.temporaries.+temporaries.Given as goal

-- the greatest so far and those of the factors that are left give the whole
abbrev pub invariant-factors_temps-loop-factor : goal.invariant-factors_temps-loop-factor
invariant-factors_temps-loop-factor l = max l.most (min (factors_temps (row (drop l.factor-index l.factors))) (2 ^ 32 - 1)) ≡ min (factors_temps (row l.factors)) (2 ^ 32 - 1)

abbrev pub invariant-terms_temps-loop-term : goal.invariant-terms_temps-loop-term
invariant-terms_temps-loop-term l = max l.most (min (terms_temps (term_row (drop l.term-index l.terms))) (2 ^ 32 - 1)) ≡ min (terms_temps (term_row l.terms)) (2 ^ 32 - 1)
