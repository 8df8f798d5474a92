-- What stands so far, and the types of the members that are left, are the whole.
use Rattle.std.proofs.Common.{◌≡◌, ◌++◌, drop, map}
use Rattle.porch_check.specs.Shapes.{members_of}
use Rattle.porch_sealing.specs.Numbers.{last_in}
use Rattle.porch_sealing.specs.inside.Types.{member_types}
use Rattle.porch_sealing.proofs.types.put_members.Given as goal

abbrev pub invariant-loop-place : goal.invariant-loop-place
invariant-loop-place l =
    l.members.items ++ map (last_in l.fn.numbers) (drop l.place (member_types (members_of l.fn.shapes l.fn.number)))
    ≡ l.fn.members.items ++ map (last_in l.fn.numbers) (member_types (members_of l.fn.shapes l.fn.number))
