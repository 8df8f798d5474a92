use Rattle.std.proofs.Common.{ap, sym, ◌∙◌}
use Rattle.porch_unit.specs.Units.{closed}
use Rattle.porch_statements.specs.Shown.{items_of}
use Rattle.porch_statements.proofs.Stacks.{when_ok}
use Rattle.porch_statements.proofs.closing.close.Goals as goal

pub returns-in-None : goal.returns-in-None
returns-in-None c = λ text. ap (closed (items_of text c.args.builder.now.items)) (sym (c.in-None.ensures.popped text))

pub returns-in-Some : goal.returns-in-Some
returns-in-Some c = when_ok c.close_frame.result (λ x h text. h text ∙ ap (closed (items_of text c.args.builder.now.items)) (sym (c.in-Some.ensures.popped text))) c.close_frame.ensures
