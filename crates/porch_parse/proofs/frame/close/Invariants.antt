use Rattle.std.proofs.Common.{◌≡◌, ℕ, List, length}
use Rattle.porch_tree.specs.Views.{expr_of}
use Rattle.porch_parse.specs.Building.{closed}
use Rattle.porch_parse.specs.Shown.{frames_of}
use Rattle.porch_parse.proofs.frame.close.Given as goal

-- What ends from the start on, ends from here on.
abbrev pub invariant-frames : goal.invariant-frames
invariant-frames l =
    (text : List ℕ) → closed l.number (frames_of text l.initial.frames) (expr_of text l.initial.value) ≡ closed l.number (frames_of text l.frames) (expr_of text l.value)

abbrev pub decreases-frames : goal.decreases-frames
decreases-frames l = length l.frames
