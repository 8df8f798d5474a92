use Rattle.std.proofs.Common.{length, ap, arith}
use Rattle.porch_metrics.proofs.ExtentBounds.{extent_bounds}
use Rattle.porch_metrics.proofs.Reading.{measured_len}
use Rattle.porch_metrics.proofs.descent.size_at.Goals as goal

pub size_in-requires : goal.size_in-requires
size_in-requires c = omega (arith, ap length c.deref.ensures.value, measured_len c.args.types.now c.args.table.now c.requires.table, c.requires.known)

pub returns-clause-bounds : goal.returns-clause-bounds
returns-clause-bounds c = extent_bounds c.args.table.now.layout c.args.types.now c.args.ty c.requires.table.layout c.requires.table.counted c.requires.known
