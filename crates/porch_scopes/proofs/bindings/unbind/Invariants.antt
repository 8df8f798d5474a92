use Rattle.std.proofs.Common.{◌∷◌, List, reverse, length, take, ◌≤◌}
use Rattle.porch_scopes.specs.inside.Bindings.{Finds}
use Rattle.porch_scopes.specs.declared.bindings.Binding as b
use Rattle.porch_scopes.proofs.bindings.unbind.Given as goal

abbrev pub invariant-loop-left : goal.invariant-loop-left
invariant-loop-left g l = record {
  within : l.left ≤ length l.layer;
  finds : (ls : List (List (b.Binding g.row.V.Denot))) → Finds l.initial.known.entries (reverse l.layer ∷ ls)
      → Finds l.known.entries (reverse (take l.left l.layer) ∷ ls);
}

abbrev pub decreases-loop-left : goal.decreases-loop-left
decreases-loop-left g l = l.left
