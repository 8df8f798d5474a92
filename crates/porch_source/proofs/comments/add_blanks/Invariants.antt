use Rattle.std.proofs.Common.{◌≡◌, ◌++◌, take}
use Rattle.porch_source.specs.Comments.{blanks}
use Rattle.porch_source.proofs.comments.add_blanks.Given as goal

abbrev pub invariant-loop-byte : goal.invariant-loop-byte
invariant-loop-byte l = l.clean.items ≡ l.initial.clean.items ++ blanks (take l.byte-index l.bytes)
