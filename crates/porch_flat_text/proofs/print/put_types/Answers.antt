-- One more type.
use Rattle.porch_flat_text.proofs.Parts.{type_put}
use Rattle.porch_flat_text.proofs.print.put_types.Goals as goal

pub loop-n-preserved : goal.loop-n-preserved
loop-n-preserved c =
    type_put c.args.types.now c.loop-n.n c.get.result.now c.loop-n.out.items c.put_type.new.out.items _ c.get.ensures c.in_ok-put_type.ensures c.loop-n.invariant
