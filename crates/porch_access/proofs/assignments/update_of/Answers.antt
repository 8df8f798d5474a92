use Rattle.std.proofs.Common.{sym, subst, ◌∙◌}
use Rattle.porch_operands.specs.Views.{typed_with}
use Rattle.porch_nodes.specs.Answers.{Refuses}
use Rattle.porch_access.specs.Readings.{read_tree, read_with}
use Rattle.porch_access.proofs.Updates.{from_reading}
use Rattle.porch_access.proofs.assignments.update_of.Goals as goal

pub returns-in-Ok-clause-made : goal.returns-in-Ok-clause-made
returns-in-Ok-clause-made g c p e =
    from_reading c.args.sign c.args.at p c.args.shape (typed_with e c.args.right) (g.T.Table.scopes c.args.table.now)
    (g.T.Table.scopes c.reading_of.new.table) (read_with p c.in_ok-reading.reading)
    (typed_with (read_tree c.in_ok-reading.reading.how c.in_ok-reading.reading.shape p) c.of.result)
    (c.in_ok-reading.ensures p)
    (c.of.ensures (read_tree c.in_ok-reading.reading.how c.in_ok-reading.reading.shape p))
    ∙ c.in-Ok.ensures.made p (read_tree c.in_ok-reading.reading.how c.in_ok-reading.reading.shape p) e

pub returns-in-Err-clause-refused : goal.returns-in-Err-clause-refused
returns-in-Err-clause-refused g c p e =
    subst (λ r. Refuses c.in-Err.fault r)
    (sym (from_reading c.args.sign c.args.at p c.args.shape (typed_with e c.args.right) (g.T.Table.scopes c.args.table.now)
    (g.T.Table.scopes c.reading_of.new.table) (read_with p c.in_ok-reading.reading)
    (typed_with (read_tree c.in_ok-reading.reading.how c.in_ok-reading.reading.shape p) c.of.result)
    (c.in_ok-reading.ensures p)
    (c.of.ensures (read_tree c.in_ok-reading.reading.how c.in_ok-reading.reading.shape p))))
    (c.in-Err.ensures.refused p (read_tree c.in_ok-reading.reading.how c.in_ok-reading.reading.shape p) e)
