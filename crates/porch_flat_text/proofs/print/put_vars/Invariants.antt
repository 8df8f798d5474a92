use Rattle.std.proofs.Common.{◌≡◌, ◌++◌, drop}
use Rattle.porch_flat_text.specs.inside.Texts.{vars_text}
use Rattle.porch_flat_text.proofs.print.put_vars.Given as goal

abbrev pub invariant-loop-n : goal.invariant-loop-n
invariant-loop-n l = l.out.items ++ vars_text l.n (drop l.n l.vars) ≡ l.fn.out.items ++ vars_text 0 l.vars
