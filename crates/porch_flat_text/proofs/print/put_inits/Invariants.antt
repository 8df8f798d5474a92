use Rattle.std.proofs.Common.{◌≡◌, ◌++◌, drop}
use Rattle.porch_flat_text.specs.inside.Texts.{inits_text}
use Rattle.porch_flat_text.proofs.print.put_inits.Given as goal

abbrev pub invariant-loop-init : goal.invariant-loop-init
invariant-loop-init l = l.out.items ++ inits_text l.n (drop l.init-index l.inits) ≡ l.fn.out.items ++ inits_text l.n l.inits
