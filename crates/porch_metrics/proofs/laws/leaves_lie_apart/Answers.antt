use Rattle.std.proofs.Common.{◌+◌, ◌/◌}
use Rattle.porch_types.specs.Leaves.{leaves_of}
use Rattle.porch_types.specs.LeafTypes.{leaf_type}
use Rattle.porch_metrics.proofs.Counted.{counted}
use Rattle.porch_metrics.proofs.LeavesApart.{leaf_apart, leaf_held}
use Rattle.porch_metrics.proofs.laws.leaves_lie_apart.Goals as goal

pub returns : goal.returns
returns c = λ l types ty a b is are known lt.
    let formed = counted types are c.leaves_add_up.ensures.together c.leaves_add_up.ensures.some in
    let count = a / leaves_of types ty + 1 in
    let scalars = c.leaves_are_scalars.ensures in
    leaf_apart l types ty count a b (leaf_type types ty a) is formed known (scalars.scalar types ty a are known)
    (scalars.begins types ty count a are known (leaf_held a (leaves_of types ty) (formed.some ty known))) lt
