use Rattle.std.proofs.Common.{◌≡◌, drop, length}
use Rattle.porch_walk.specs.Levels.{shown}
use Rattle.porch_depth.specs.Levels.{deep_from}
use Rattle.porch_depth.specs.inside.Reads.{IsSwept}
use Rattle.porch_depth.proofs.sweep.first_deep.Given as goal

abbrev pub invariant-loop-place : goal.invariant-loop-place
invariant-loop-place l =
    IsSwept (drop l.place l.readings) l.place l.sweep × (l.found ≡ deep_from l.place (shown (drop l.place l.readings)))
    × (length l.sweep.endings.items ≡ length l.readings)
