use Rattle.std.proofs.Common.{◌∙◌, ap}
use Rattle.porch_types.specs.inside.Kept.{contents}
use Rattle.porch_types.proofs.Copying.{copied_more}
use Rattle.porch_types.proofs.entries.copy_entries.Goals as goal

pub loop-entry-preserved : goal.loop-entry-preserved
loop-entry-preserved c =
    ap contents c.in_ok-push.ensures.items
    ∙ copied_more c.loop-entry.copies.items c.args.entries.now c.loop-entry.entry-index c.in_ok-copy_entry.field-0 c.entry-item.result
    c.loop-entry.invariant c.in_ok-copy_entry.ensures c.entry-item.is c.loop-entry-test.true
