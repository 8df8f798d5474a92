use Rattle.std.proofs.Common.{◌≡◌, drop}
use Rattle.porch_flat.specs.inside.CallGraph.{all_noted, callers_in}
use Rattle.porch_flat.proofs.whole.calls.Callers.new.Given as goal

abbrev pub invariant-loop-f : goal.invariant-loop-f
invariant-loop-f l = all_noted l.f (drop l.f l.functions) l.callers ≡ callers_in l.functions
