use Rattle.std.proofs.Common.{◌≡◌, ◌++◌, map, take}
use Rattle.porch_walk.specs.Levels.{placed}
use Rattle.porch_depth.proofs.take.put.Given as goal

-- the parts so far
abbrev pub invariant-loop-step : goal.invariant-loop-step
invariant-loop-step l = l.levels.items ≡ l.initial.levels.items ++ map (placed l.here.level l.here.token) (take l.step-index l.steps)
