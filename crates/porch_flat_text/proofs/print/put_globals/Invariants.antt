use Rattle.std.proofs.Common.{◌≡◌, ◌++◌, drop}
use Rattle.porch_flat_text.specs.inside.Texts.{globals_text}
use Rattle.porch_flat_text.proofs.print.put_globals.Given as goal

abbrev pub invariant-loop-n : goal.invariant-loop-n
invariant-loop-n l = l.out.items ++ globals_text l.n (drop l.n l.globals) ≡ l.fn.out.items ++ globals_text 0 l.globals
