use Rattle.std.proofs.Common.{◌≡◌, ◌≤◌, take}
use Rattle.porch_rewrite.specs.Rewriting as rewriting
use Rattle.porch_rewrite.specs.inside.Marked.{marked}
use Rattle.porch_rewrite.proofs.functions.numbers_in.Given as goal

abbrev pub invariant-loop-command : goal.invariant-loop-command
invariant-loop-command l = record {
  value : l.count ≡ rewriting.numbers_in (marked l.reached) (take l.command-index l.commands);
  few : l.count ≤ l.command-index;
}
