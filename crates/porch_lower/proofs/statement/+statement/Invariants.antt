use Rattle.std.proofs.Common.{◌≡◌, ◌<◌, ◌+◌, ◌^◌, ◌++◌, drop, length}
use Rattle.porch_lower.specs.Code.{actions_code, actions_temps}
use Rattle.porch_lower.proofs.Counts.{block}
use Rattle.porch_lower.proofs.statement.+statement.Given as goal

-- what stands so far and the commands of the statements that are left are the whole
abbrev pub invariant-statements-loop-one : goal.invariant-statements-loop-one
invariant-statements-loop-one l = record {
  code : l.commands ++ actions_code l.from (length l.commands) (block (drop l.one-index l.statements)) ≡ l.fn.commands ++ actions_code l.from (length l.fn.commands) (block l.statements);
  few : l.from + actions_temps (block (drop l.one-index l.statements)) < 2 ^ 31;
}
