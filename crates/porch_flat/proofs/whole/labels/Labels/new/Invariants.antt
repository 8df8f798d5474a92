use Rattle.std.proofs.Common.{◌≡◌, ℕ, take}
use Rattle.porch_flat.specs.whole.Places.{place_of_label}
use Rattle.porch_flat.specs.Labelled.{place_in}
use Rattle.porch_flat.proofs.whole.labels.Labels.new.Given as goal

abbrev pub invariant-loop-at : goal.invariant-loop-at
invariant-loop-at l = (n : ℕ) → place_in l.places.entries n ≡ place_of_label (take l.at l.commands) n
