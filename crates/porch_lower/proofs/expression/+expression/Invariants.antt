use Rattle.std.proofs.Common.{◌≡◌, ◌<◌, ◌+◌, ◌^◌, ◌++◌, drop}
use Rattle.porch_lower.specs.Code.{factors_temps, terms_temps}
use Rattle.porch_lower.specs.inside.Rows.{factors_from, terms_from}
use Rattle.porch_lower.proofs.Expressions.{row, term_row}
use Rattle.porch_lower.proofs.expression.+expression.Given as goal

-- what stands so far and the commands of the factors that are left are the whole
abbrev pub invariant-factors-loop-index : goal.invariant-factors-loop-index
invariant-factors-loop-index l = record {
  code : l.commands ++ factors_from l.left (row (drop l.index l.factors)) l.to l.from ≡ l.fn.commands ++ factors_from l.fn.first (row l.factors) l.to l.from;
  few : l.from + 2 + factors_temps (row (drop l.index l.factors)) < 2 ^ 31;
}

-- and likewise for terms
abbrev pub invariant-terms-loop-index : goal.invariant-terms-loop-index
invariant-terms-loop-index l = record {
  code : l.commands ++ terms_from l.left (term_row (drop l.index l.terms)) l.to l.from ≡ l.fn.commands ++ terms_from l.fn.first (term_row l.terms) l.to l.from;
  few : l.from + 2 + terms_temps (term_row (drop l.index l.terms)) < 2 ^ 31;
}
