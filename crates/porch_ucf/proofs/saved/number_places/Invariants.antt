use Rattle.std.proofs.Common.{take}
use Rattle.porch_ucf.specs.inside.SavedPlaces.{AreNumberPlaces}
use Rattle.porch_ucf.proofs.saved.number_places.Given as goal

abbrev pub invariant-loop-at : goal.invariant-loop-at
invariant-loop-at l = AreNumberPlaces (take l.at l.commands) l.places.items
