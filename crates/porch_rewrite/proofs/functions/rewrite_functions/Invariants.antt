use Rattle.std.proofs.Common.{◌≡◌, ◌++◌, length}
use Rattle.std.specs.Prelude.{reverse}
use Rattle.std.specs.List.{All}
use Rattle.porch_rewrite.specs.Rewriting as rewriting
use Rattle.porch_rewrite.specs.inside.Marked.{marked, IsFew}
use Rattle.porch_rewrite.proofs.functions.rewrite_functions.Given as goal

abbrev pub invariant-loop-function : goal.invariant-loop-function
invariant-loop-function l = record {
  code : l.made ++ rewriting.rewritten_functions (marked l.reached) (length l.made) (reverse l.turned) ≡ rewriting.rewritten_functions (marked l.reached) 0 l.fn.functions;
  few : All (IsFew (marked l.reached)) (reverse l.turned);
}

abbrev pub decreases-loop-function : goal.decreases-loop-function
decreases-loop-function l = length l.turned
