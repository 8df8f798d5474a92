use Rattle.std.proofs.Common.{◌≡◌, length}
use Rattle.porch_ucf.specs.inside.SavedPlaces.{AreSavedPlaces}
use Rattle.porch_ucf.proofs.saved.saved_places.Given as goal

abbrev pub invariant-loop-function : goal.invariant-loop-function
invariant-loop-function l = record {
  kept : AreSavedPlaces l.program l.saved.items;
  all : length l.saved.items ≡ l.function-index;
}
