-- What stands so far, and the types that are left, are the whole.
use Rattle.std.proofs.Common.{◌≡◌, ◌++◌, drop}
use Rattle.porch_sealing.specs.Numbers.{in_order}
use Rattle.porch_sealing.specs.inside.Types.{types_in}
use Rattle.porch_sealing.proofs.types.put_types.Given as goal

abbrev pub invariant-loop-number : goal.invariant-loop-number
invariant-loop-number l =
    l.types ++ types_in (in_order l.fn.numbers l.fn.shapes) (drop l.number-index l.complete)
    ≡ l.fn.types ++ types_in (in_order l.fn.numbers l.fn.shapes) l.complete
