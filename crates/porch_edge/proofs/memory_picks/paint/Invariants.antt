use Rattle.std.proofs.Common.{◌≡◌, ℕ, ◌<◌, ◌≤◌, length, get_or, if◌then◌else◌}
use Rattle.porch_edge.specs.Picks.{is_between}
use Rattle.porch_edge.proofs.memory_picks.paint.Given as goal

abbrev pub invariant-loop-place : goal.invariant-loop-place
invariant-loop-place l = record {
  whole : length l.bytes ≡ length l.initial.bytes;
  done : (k : ℕ) → k < l.place → get_or l.bytes k 0 ≡ (if is_between l.from l.to k then l.byte else get_or l.initial.bytes k 0);
  rest : (k : ℕ) → l.place ≤ k → get_or l.bytes k 0 ≡ get_or l.initial.bytes k 0;
}
