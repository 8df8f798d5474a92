use Rattle.std.proofs.Common.{◌≡◌, ◌≤◌, take, count_by}
use Rattle.porch_flat.specs.whole.Form.{form_of}
use Rattle.porch_rewrite.specs.Laws.{takes_label}
use Rattle.porch_rewrite.proofs.functions.labels_taken.Given as goal

abbrev pub invariant-loop-command : goal.invariant-loop-command
invariant-loop-command l = record {
  value : l.count ≡ count_by (λ c. takes_label (form_of c)) (take l.command-index l.commands);
  few : l.count ≤ l.command-index;
}
