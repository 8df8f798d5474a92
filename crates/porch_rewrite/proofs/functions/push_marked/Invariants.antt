use Rattle.std.proofs.Common.{◌≡◌, ◌<◌, ◌+◌, ◌++◌, length}
use Rattle.std.specs.Prelude.{reverse}
use Rattle.porch_rewrite.specs.Rewriting as rewriting
use Rattle.porch_rewrite.specs.Rewriting.{FIRST_LABEL}
use Rattle.porch_rewrite.specs.inside.Marked.{marked}
use Rattle.porch_rewrite.proofs.functions.push_marked.Given as goal

-- what stands so far and the commands that are left are the whole
abbrev pub invariant-loop-command : goal.invariant-loop-command
invariant-loop-command l = record {
  code : l.made ++ rewriting.all_with_marks (marked l.reached) l.out l.before (reverse l.turned) ≡ l.fn.made ++ rewriting.all_with_marks (marked l.reached) l.out 0 l.fn.commands;
  few : l.before + rewriting.numbers_in (marked l.reached) (reverse l.turned) < FIRST_LABEL;
}

abbrev pub decreases-loop-command : goal.decreases-loop-command
decreases-loop-command l = length l.turned
