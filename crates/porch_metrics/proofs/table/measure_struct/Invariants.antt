use Rattle.std.proofs.Common.{◌≡◌, ◌<◌, ◌≤◌, ◌*◌, ◌++◌, drop, max, map}
use Rattle.porch_metrics.specs.Extents.{extent_in, member_places, members_end, greatest_align}
use Rattle.porch_metrics.specs.inside.Tables.{extent}
use Rattle.porch_metrics.proofs.table.measure_struct.Given as goal

abbrev pub invariant-loop-member : goal.invariant-loop-member
invariant-loop-member l = record {
  low : l.end ≤ l.member-index * 16_777_216;
  least : l.layout.least_struct ≤ l.align;
  some : 0 < l.align;
  most : l.align ≤ 8;
  last : members_end (extent_in (map extent l.measured)) l.end (drop l.member-index l.members) ≡ members_end (extent_in (map extent l.measured)) 0 l.members;
  each : l.places.items ++ member_places (extent_in (map extent l.measured)) l.end (drop l.member-index l.members)
      ≡ member_places (extent_in (map extent l.measured)) 0 l.members;
  greatest : max l.align (greatest_align (extent_in (map extent l.measured)) l.layout.least_struct (drop l.member-index l.members))
      ≡ greatest_align (extent_in (map extent l.measured)) l.layout.least_struct l.members;
}
