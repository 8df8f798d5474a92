use Rattle.std.proofs.Common.{◌≡◌, drop}
use Rattle.std.specs.List.{list_all}
use Rattle.porch_flat.specs.whole.Places.{argument_places}
use Rattle.porch_flat.specs.whole.Rules.{fits}
use Rattle.porch_flat.proofs.whole.arguments.fit_parameters.Given as goal

abbrev pub invariant-loop-at : goal.invariant-loop-at
invariant-loop-at l =
    list_all (fits l.f) (argument_places l.os l.types)
    ≡ list_all (fits l.f) (argument_places (drop l.at l.os) (drop l.at l.types))
