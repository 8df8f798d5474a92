use Rattle.std.proofs.Common.{slice_get, ap, ◌∙◌}
use Rattle.porch_types.specs.LeafTypes.{leaf_type}
use Rattle.porch_objects.specs.Store.{zero_of}
use Rattle.porch_live.proofs.Alike.{one_more}
use Rattle.porch_live.proofs.zeros.zeros.Goals as goal

pub loop-leaf-preserved : goal.loop-leaf-preserved
loop-leaf-preserved c =
    let types = c.args.types.now in
    one_more (λ leaf. zero_of (slice_get types (leaf_type types c.args.ty leaf))) c.loop-leaf.values.items c.push.new.self.items c.zero_of.result c.loop-leaf.leaf
    c.loop-leaf.invariant c.in_ok-push.ensures.items
    (c.zero_of.ensures ∙ ap (λ ty. zero_of (slice_get types ty)) c.leaf_type.ensures.value)
