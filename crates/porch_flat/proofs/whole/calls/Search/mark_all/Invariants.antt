use Rattle.std.proofs.Common.{◌≡◌, drop}
use Rattle.porch_flat.specs.inside.CallGraph.{all_marked}
use Rattle.porch_flat.proofs.whole.calls.Search.mark_all.Given as goal

abbrev pub invariant-loop-f : goal.invariant-loop-f
invariant-loop-f l = all_marked (drop l.f-index l.fs) l.self ≡ all_marked l.fs l.fn.self
