use Rattle.std.proofs.Common.{◌+◌, ◌/◌}
use Rattle.porch_types.specs.Leaves.{leaves_of}
use Rattle.porch_types.specs.LeafTypes.{leaf_type}
use Rattle.porch_metrics.proofs.Counted.{counted}
use Rattle.porch_metrics.proofs.LeavesApart.{leaf_packed, leaf_held}
use Rattle.porch_metrics.proofs.laws.ucf_leaves_are_packed.Goals as goal

pub returns : goal.returns
returns c = λ types ty leaf are known.
    let formed = counted types are c.leaves_add_up.ensures.together c.leaves_add_up.ensures.some in
    let count = leaf / leaves_of types ty + 1 in
    let scalars = c.leaves_are_scalars.ensures in
    leaf_packed types ty count leaf (leaf_type types ty leaf) formed known (scalars.scalar types ty leaf are known)
    (scalars.begins types ty count leaf are known (leaf_held leaf (leaves_of types ty) (formed.some ty known)))
