use Rattle.std.proofs.Common.{◌∙◌, sym}
use Rattle.porch_words.specs.Orders.{exec, order_seen}
use Rattle.porch_cli.proofs.OneRun.{exec_once, limited_by}
use Rattle.porch_cli.proofs.words.ordered_run.Goals as goal

pub returns-in-Ok-clause-limited : goal.returns-in-Ok-clause-limited
returns-in-Ok-clause-limited c = limited_by (order_seen c.in-Ok.order) c.run_in.result c.run_in.ensures c.in-Ok.ensures.limited

pub returns-in-Ok-clause-once : goal.returns-in-Ok-clause-once
returns-in-Ok-clause-once c = λ o p a b. exec_once o p (sym (c.in-Ok.ensures.only (exec o.layout o.limits) a) ∙ c.in-Ok.ensures.only (exec p.layout p.limits) b)

pub returns-in-Err-clause-ordered : goal.returns-in-Err-clause-ordered
returns-in-Err-clause-ordered c = λ o w. c.in-Err.ensures.only (exec o.layout o.limits) w

pub returns-in-Err-clause-once : goal.returns-in-Err-clause-once
returns-in-Err-clause-once c = λ o p a b. absurd (c.in-Err.ensures.only (exec o.layout o.limits) a)
