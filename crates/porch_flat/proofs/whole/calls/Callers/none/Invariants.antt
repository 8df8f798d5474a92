use Rattle.std.proofs.Common.{◌≡◌, [], map, replicate}
use Rattle.porch_flat.proofs.whole.calls.Callers.none.Given as goal

abbrev pub invariant-loop : goal.invariant-loop
invariant-loop l = map (λ fs. fs.items) l.lists.items ≡ replicate l.counter []
