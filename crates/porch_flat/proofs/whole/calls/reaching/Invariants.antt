use Rattle.std.proofs.Common.{◌≡◌, length}
use Rattle.std.specs.Prelude.{◌-◌}
use Rattle.porch_flat.specs.inside.CallGraph.{callers_in, gone_through, reached}
use Rattle.porch_flat.proofs.whole.calls.reaching.Given as goal

-- What is left to go through leads to the same as all.
abbrev pub invariant-loop-step : goal.invariant-loop-step
invariant-loop-step l =
    gone_through (callers_in l.flat.functions) (length l.flat.functions - l.step) l.step l.search ≡ reached l.flat.functions
