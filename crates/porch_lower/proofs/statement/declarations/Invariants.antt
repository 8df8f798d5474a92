use Rattle.std.proofs.Common.{◌≡◌, ◌<◌, ◌+◌, ◌^◌, ◌++◌, drop}
use Rattle.porch_lower.specs.Code.{declarations_code, declarations_temps}
use Rattle.porch_lower.proofs.Counts.{declared}
use Rattle.porch_lower.proofs.statement.declarations.Given as goal

-- what stands so far and the commands of the declarations that are left are the whole
abbrev pub invariant-loop-variable : goal.invariant-loop-variable
invariant-loop-variable l = record {
  code : l.commands ++ declarations_code l.from l.variable (declared (drop l.variable l.declarations)) ≡ l.fn.commands ++ declarations_code l.from 0 (declared l.declarations);
  few : l.from + declarations_temps (declared (drop l.variable l.declarations)) < 2 ^ 31;
}
