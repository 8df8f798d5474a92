use Rattle.std.proofs.Common.{◌≡◌, ◌++◌, ◌-◌, length}
use Rattle.porch_flat_text.specs.inside.Numbers.{number_in}
use Rattle.porch_flat_text.specs.inside.Cuts.{each_in}
use Rattle.porch_flat_text.proofs.draft.numbers_in.Given as goal

abbrev pub invariant-loop : goal.invariant-loop
invariant-loop l = l.numbers.items ++ each_in number_in (length l.inner - l.counter) l.rest ≡ each_in number_in (length l.inner) l.inner
