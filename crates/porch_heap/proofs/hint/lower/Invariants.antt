use Rattle.std.proofs.Common.{◌≡◌, take, drop, map}
use Rattle.porch_heap.specs.inside.Hints.{lowered}
use Rattle.porch_heap.proofs.hint.lower.Given as goal

abbrev pub invariant-loop-hint : goal.invariant-loop-hint
invariant-loop-hint l = record {
  done : take l.hint-index l.hints ≡ map (lowered l.gap.from l.gap.bytes) (take l.hint-index l.initial.hints);
  rest : drop l.hint-index l.hints ≡ drop l.hint-index l.initial.hints;
}
