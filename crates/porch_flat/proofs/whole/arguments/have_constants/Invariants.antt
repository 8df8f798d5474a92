use Rattle.std.proofs.Common.{◌≡◌, drop}
use Rattle.std.specs.List.{list_all}
use Rattle.porch_flat.specs.whole.Places.{argument_places}
use Rattle.porch_flat.specs.whole.Rules.{has_constant}
use Rattle.porch_flat.proofs.whole.arguments.have_constants.Given as goal

abbrev pub invariant-loop-at : goal.invariant-loop-at
invariant-loop-at l =
    list_all (λ p. has_constant l.flat p.operand p.ty) (argument_places l.os l.types)
    ≡ list_all (λ p. has_constant l.flat p.operand p.ty) (argument_places (drop l.at l.os) (drop l.at l.types))
