use Rattle.std.proofs.Common.{◌≡◌, drop, replicate, false}
use Rattle.porch_flat.specs.inside.CallGraph.{begun, started}
use Rattle.porch_flat.proofs.whole.calls.Search.new.Given as goal

abbrev pub invariant-loop : goal.invariant-loop
invariant-loop l = l.marks.items ≡ replicate l.index false

abbrev pub invariant-loop-f : goal.invariant-loop-f
invariant-loop-f l = begun l.f (drop l.f l.functions) l.search ≡ started l.functions
