use Rattle.std.proofs.Common.{◌≡◌, ◌-◌, ◌^◌, max, min, drop}
use Rattle.porch_lower.specs.Code.{declarations_temps}
use Rattle.porch_lower.proofs.Counts.{declared}
use Rattle.porch_lower.proofs.temporaries.declarations_temps.Given as goal

abbrev pub invariant-loop-initialiser : goal.invariant-loop-initialiser
invariant-loop-initialiser l = max l.most (min (declarations_temps (declared (drop l.initialiser-index l.declarations))) (2 ^ 32 - 1)) ≡ min (declarations_temps (declared l.declarations)) (2 ^ 32 - 1)
