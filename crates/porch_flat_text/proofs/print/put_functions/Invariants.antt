use Rattle.std.proofs.Common.{◌≡◌, ◌++◌, drop}
use Rattle.porch_flat_text.specs.inside.Texts.{functions_text}
use Rattle.porch_flat_text.proofs.print.put_functions.Given as goal

abbrev pub invariant-loop-n : goal.invariant-loop-n
invariant-loop-n l = l.out.items ++ functions_text l.n (drop l.n l.functions) ≡ l.fn.out.items ++ functions_text 0 l.functions
