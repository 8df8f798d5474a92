use Rattle.std.proofs.Common.{◌≡◌, ◌-◌, ◌^◌, max, min, drop}
use Rattle.porch_lower.specs.Code.{actions_temps}
use Rattle.porch_lower.proofs.Counts.{block}
use Rattle.porch_lower.proofs.temporaries.+statement_temporaries.Given as goal

abbrev pub invariant-statements_temps-loop-statement : goal.invariant-statements_temps-loop-statement
invariant-statements_temps-loop-statement l = max l.most (min (actions_temps (block (drop l.statement-index l.statements))) (2 ^ 32 - 1)) ≡ min (actions_temps (block l.statements)) (2 ^ 32 - 1)
