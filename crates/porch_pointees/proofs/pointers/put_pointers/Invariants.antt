-- Where the pointers that are left lead from here, all of them lead from the start.
use Rattle.std.proofs.Common.{◌≡◌, ◌-◌, List, length, map}
use Rattle.porch_types.specs.declared.shapes.Ty.{Ty}
use Rattle.porch_check.specs.Sealing.{with_pointers}
use Rattle.porch_pointees.specs.Views.{as_sealed}
use Rattle.porch_pointees.specs.inside.Pointees.{pointee}
use Rattle.porch_pointees.proofs.pointers.put_pointers.Given as goal

abbrev pub invariant-loop-to : goal.invariant-loop-to
invariant-loop-to l =
    (own : List Ty) → l.fn.count ≡ length own → l.fn.pointees ≡ map (pointee l.fn.count) own
    → with_pointers (l.fn.count - l.to) l.to own (as_sealed l.sealed) ≡ with_pointers l.fn.count 0 own (as_sealed l.fn.sealed)
