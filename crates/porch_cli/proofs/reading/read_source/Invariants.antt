use Rattle.std.proofs.Common.{◌≤◌, ◌+◌, ◌-◌, ◌^◌, length, vec_len}
use Rattle.porch_cli.specs.inside.Parts.{HasTaken}
use Rattle.porch_cli.proofs.reading.read_source.Given as goal

abbrev pub invariant-loop-piece : goal.invariant-loop-piece
invariant-loop-piece g l = record {
  taken : HasTaken (g.S.Source.left l.fn.source) (g.S.Source.left l.source) l.text.items;
  later : g.S.Source.faults l.fn.source ≤ g.S.Source.faults l.source;
  short : length l.text.items ≤ 2 ^ 20 + 4096;
}

-- what may still come
abbrev pub decreases-loop-piece : goal.decreases-loop-piece
decreases-loop-piece g l = 2 ^ 20 + 1 - vec_len l.text
