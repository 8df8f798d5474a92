-- What stands so far, and what the types that are left point to, are the whole.
use Rattle.std.proofs.Common.{◌≡◌, ◌++◌, map, drop}
use Rattle.porch_pointees.specs.inside.Pointees.{pointee}
use Rattle.porch_pointees.proofs.pointers.put_pointees.Given as goal

abbrev pub invariant-loop-ty : goal.invariant-loop-ty
invariant-loop-ty l =
    l.pointees ++ map (pointee l.fn.count) (drop l.ty-index l.own)
    ≡ l.fn.pointees ++ map (pointee l.fn.count) l.own
