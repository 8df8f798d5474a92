use Rattle.std.proofs.Common.{ap, sym, ◌∙◌}
use Rattle.porch_abstract.specs.whole.Run.{counts}
use Rattle.porch_run.proofs.counting.counts_in_function.Goals as goal

pub returns-in-None : goal.returns-in-None
returns-in-None c = sym (ap (λ o. counts o) c.in-None.ensures.none)

pub returns-in-Some : goal.returns-in-Some
returns-in-Some c = c.counts_turn.ensures ∙ c.in-Some.ensures.some.counts_are
