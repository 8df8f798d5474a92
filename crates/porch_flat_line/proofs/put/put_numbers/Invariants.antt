use Rattle.std.proofs.Common.{◌≡◌, ◌++◌, drop, map}
use Rattle.porch_flat_line.specs.Text.{number, further_text}
use Rattle.porch_flat_line.proofs.put.put_numbers.Given as goal

abbrev pub invariant-loop-number : goal.invariant-loop-number
invariant-loop-number l = l.out.items ++ further_text (map number (drop l.number-index l.numbers)) ≡ l.fn.out.items ++ further_text (map number l.numbers)
