use Rattle.std.proofs.Common.{◌≡◌, ◌++◌, ◌-◌, length}
use Rattle.porch_flat_text.specs.inside.Numbers.{variable_in}
use Rattle.porch_flat_text.specs.inside.Cuts.{each_in}
use Rattle.porch_flat_text.proofs.command.variables_in.Given as goal

abbrev pub invariant-loop : goal.invariant-loop
invariant-loop l = l.variables.items ++ each_in variable_in (length l.inner - l.counter) l.rest ≡ each_in variable_in (length l.inner) l.inner
