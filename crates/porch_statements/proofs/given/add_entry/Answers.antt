use Rattle.std.proofs.Common.{ap, sym, ◌∙◌}
use Rattle.porch_tree.specs.Views.{perhaps_of}
use Rattle.porch_unit.specs.Units.{labelled}
use Rattle.porch_statements.specs.Shown.{items_of}
use Rattle.porch_statements.specs.inside.Made.{label}
use Rattle.porch_statements.proofs.Stacks.{when_ok}
use Rattle.porch_statements.proofs.given.add_entry.Goals as goal

pub returns-in-None : goal.returns-in-None
returns-in-None c = λ text. ap (λ fs. labelled (items_of text c.args.builder.now.items) fs (label c.args.at (perhaps_of text c.args.case))) (sym (c.in-None.ensures.popped text))

pub returns-in-Some : goal.returns-in-Some
returns-in-Some c = when_ok c.add_within.result (λ x h text. h text ∙ ap (λ fs. labelled (items_of text c.args.builder.now.items) fs (label c.args.at (perhaps_of text c.args.case))) (sym (c.in-Some.ensures.popped text))) c.add_within.ensures
