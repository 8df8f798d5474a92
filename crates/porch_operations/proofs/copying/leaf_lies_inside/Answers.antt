use Rattle.std.proofs.Common.{◌≡◌, ◌≤◌, ℕ, ◌+◌, ◌*◌, sym, ap, ◌∙◌, arith}
use Rattle.porch_types.specs.Leaves.{leaves_of}
use Rattle.porch_types.specs.LeafTypes.{leaf_type}
use Rattle.porch_metrics.specs.Extents.{extent_of}
use Rattle.porch_metrics.specs.Places.{place_of}
use Rattle.porch_operations.proofs.copying.leaf_lies_inside.Goals as goal

pub returns : goal.returns
returns c =
    let once : 1 * leaves_of c.args.metrics.now.types c.args.ty ≡ leaves_of c.args.metrics.now.types c.args.ty = omega arith in
    let ends : place_of c.args.metrics.now.layout c.args.metrics.now.types c.args.ty (leaves_of c.args.metrics.now.types c.args.ty)
    ≡ 1 * (extent_of c.args.metrics.now.layout c.args.metrics.now.types c.args.ty).size =
    ap (λ (k : ℕ). place_of c.args.metrics.now.layout c.args.metrics.now.types c.args.ty k) (sym once)
    ∙ c.elements_are_aligned.ensures.place c.args.metrics.now.layout c.args.metrics.now.types c.args.ty 1 c.layout.ensures.allowed c.layout.ensures.types c.requires.known in
    let lies : place_of c.args.metrics.now.layout c.args.metrics.now.types c.args.ty c.args.leaf
    + (extent_of c.args.metrics.now.layout c.args.metrics.now.types (leaf_type c.args.metrics.now.types c.args.ty c.args.leaf)).size
    ≤ place_of c.args.metrics.now.layout c.args.metrics.now.types c.args.ty (leaves_of c.args.metrics.now.types c.args.ty) =
    c.leaves_lie_apart.ensures c.args.metrics.now.layout c.args.metrics.now.types c.args.ty c.args.leaf (leaves_of c.args.metrics.now.types c.args.ty)
    c.layout.ensures.allowed c.layout.ensures.types c.requires.known c.requires.leaf in
    omega (arith, ends, lies)
