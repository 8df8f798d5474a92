use Rattle.std.proofs.Common.{◌≡◌, reverse, take}
use Rattle.porch_walk.specs.Levels.{read}
use Rattle.porch_depth.proofs.read.read.Given as goal

-- what was left out changes nothing
abbrev pub invariant-loop-left : goal.invariant-loop-left
invariant-loop-left l =
    read l.known l.token l.word (reverse l.parts) (reverse l.initial.levels.items)
    ≡ read l.known l.token l.word (reverse (take l.left l.parts)) (reverse l.levels.items)
