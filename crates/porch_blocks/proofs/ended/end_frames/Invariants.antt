use Rattle.std.proofs.Common.{◌≡◌, ℕ, List, length}
use Rattle.porch_tree.specs.Views.{stmt_of}
use Rattle.porch_unit.specs.Units.{ended_all}
use Rattle.porch_statements.specs.Shown.{frames_of}
use Rattle.porch_blocks.proofs.ended.end_frames.Given as goal

-- What ends from the start on, ends from here on.
abbrev pub invariant-frames : goal.invariant-frames
invariant-frames l =
    (text : List ℕ) → ended_all l.is_else (frames_of text l.fn.frames) (stmt_of text l.fn.statement)
    ≡ ended_all l.is_else (frames_of text l.frames) (stmt_of text l.statement)

abbrev pub decreases-frames : goal.decreases-frames
decreases-frames l = length l.frames
