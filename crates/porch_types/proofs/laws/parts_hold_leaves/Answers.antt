use Rattle.std.proofs.Common.{slice_get, refl}
use Rattle.porch_types.proofs.LeafTypes.{without_parts}
use Rattle.porch_types.proofs.Nested.{holds_leaf, no_parts}
use Rattle.porch_types.proofs.laws.parts_hold_leaves.Goals as goal

pub returns-clause-some : goal.returns-clause-some
returns-clause-some c = λ types ty leaf part are at. holds_leaf types ty leaf part are.formed at

pub returns-clause-none : goal.returns-clause-none
returns-clause-none c = λ types ty leaf are known lt at.
    let ends = without_parts types ty leaf (slice_get types ty) are.formed known lt refl at in
    (ends.scalar, ends.first)

pub returns-clause-scalar : goal.returns-clause-scalar
returns-clause-scalar c = λ types ty leaf scalar. no_parts types (slice_get types ty) leaf scalar
