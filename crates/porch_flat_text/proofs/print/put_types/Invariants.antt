use Rattle.std.proofs.Common.{◌≡◌, ◌++◌, drop}
use Rattle.porch_flat_text.specs.inside.Texts.{types_text}
use Rattle.porch_flat_text.proofs.print.put_types.Given as goal

abbrev pub invariant-loop-n : goal.invariant-loop-n
invariant-loop-n l = l.out.items ++ types_text l.n (drop l.n l.types) ≡ l.fn.out.items ++ types_text 8 (drop 8 l.types)
