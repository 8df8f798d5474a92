use Rattle.std.proofs.Common.{◌≡◌, ◌+◌, ◌++◌, drop}
use Rattle.porch_types.specs.Leaves.{leaves_of, leaves_together}
use Rattle.porch_types.specs.Entries.{types_of}
use Rattle.porch_types.specs.inside.Kept.{starts_from}
use Rattle.porch_types.proofs.checks.member_starts.Given as goal

abbrev pub invariant-loop-member : goal.invariant-loop-member
invariant-loop-member l = record {
  sum : l.next + leaves_together (leaves_of (types_of l.entries)) (drop l.member-index l.members) ≡ leaves_together (leaves_of (types_of l.entries)) l.members;
  starts : l.starts.items ++ starts_from (leaves_of (types_of l.entries)) l.next (drop l.member-index l.members)
      ≡ starts_from (leaves_of (types_of l.entries)) 0 l.members;
}
