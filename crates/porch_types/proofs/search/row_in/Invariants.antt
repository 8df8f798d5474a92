use Rattle.std.proofs.Common.{◌≡◌, ◌<◌, ◌≤◌, ◌+◌, length, IfSome}
use Rattle.std.specs.Option.{option_map}
use Rattle.porch_types.specs.Rows.{row_at, row_within, moved_row}
use Rattle.porch_types.specs.Entries.{types_of}
use Rattle.porch_types.proofs.Depth.{depth_of}
use Rattle.porch_types.proofs.search.row_in.Given as goal

abbrev pub invariant-down : goal.invariant-down
invariant-down l = record {
  sum : l.base + l.inner ≡ l.place;
  begun : IfSome l.found (λ part. part.first ≤ l.inner);
  row : IfSome l.found (λ part. part.row.first ≤ part.first);
  known : IfSome l.found (λ part. part.ty < length l.entries);
  -- the row from the start is the row from here, moved
  same : row_at (types_of l.entries) l.root l.count l.place l.pointee
      ≡ option_map (moved_row l.base) (row_within (depth_of l.found) (types_of l.entries) l.found l.inner l.pointee);
}

abbrev pub decreases-down : goal.decreases-down
decreases-down l = depth_of l.found
