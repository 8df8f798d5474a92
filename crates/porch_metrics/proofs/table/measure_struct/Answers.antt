use Rattle.std.proofs.Common.{map, refl, arith}
use Rattle.porch_metrics.specs.Extents.{extent_in}
use Rattle.porch_metrics.specs.inside.Tables.{extent}
use Rattle.porch_metrics.proofs.Bounds.{power_some}
use Rattle.porch_metrics.proofs.Measuring.{greatest_le}
use Rattle.porch_metrics.proofs.table.measure_struct.Goals as goal

pub loop-member-init : goal.loop-member-init
loop-member-init c =
    let p = power_some c.args.layout.now.least_struct c.requires.layout.least_struct.alignment in
    let f = extent_in (map extent c.args.measured.now) in
    record {
      low = omega arith;
      least = omega (arith, c.from-align.ensures);
      some = omega (arith, p.0, c.from-align.ensures);
      most = omega (arith, p.1, c.from-align.ensures);
      last = refl;
      each = rw c.in_ok-places.ensures.items refl;
      greatest = omega (arith, c.from-align.ensures, greatest_le f c.args.layout.now.least_struct c.args.members.now);
    }
