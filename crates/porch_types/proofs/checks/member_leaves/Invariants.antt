use Rattle.std.proofs.Common.{◌≡◌, ◌<◌, ◌+◌, ◌-◌, ◌^◌, min, drop}
use Rattle.porch_types.specs.Leaves.{leaves_of, leaves_together}
use Rattle.porch_types.specs.Entries.{types_of}
use Rattle.porch_types.proofs.checks.member_leaves.Given as goal

abbrev pub invariant-loop-member : goal.invariant-loop-member
invariant-loop-member l = record {
  fits : l.sum < 2 ^ 64;
  sum : min (l.sum + leaves_together (leaves_of (types_of l.entries)) (drop l.member-index l.members)) (2 ^ 64 - 1)
      ≡ min (leaves_together (leaves_of (types_of l.entries)) l.members) (2 ^ 64 - 1);
}
