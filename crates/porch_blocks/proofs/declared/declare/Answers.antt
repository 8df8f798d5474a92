use Rattle.std.proofs.Common.{ap, sym, ◌∙◌}
use Rattle.porch_tree.specs.Views.{declaration_of}
use Rattle.porch_unit.specs.Units.{declared_in}
use Rattle.porch_statements.specs.Shown.{items_of}
use Rattle.porch_blocks.proofs.Stacks.{when_ok}
use Rattle.porch_blocks.proofs.declared.declare.Goals as goal

pub returns-in-None : goal.returns-in-None
returns-in-None c = λ text. ap (λ fs. declared_in (items_of text c.args.builder.now.items) fs (declaration_of text c.args.declaration)) (sym (c.in-None.ensures.popped text))

pub returns-in-Some : goal.returns-in-Some
returns-in-Some c =
    when_ok c.declare_in.result (λ x h text. h text ∙ ap (λ fs. declared_in (items_of text c.args.builder.now.items) fs (declaration_of text c.args.declaration)) (sym (c.in-Some.ensures.popped text))) c.declare_in.ensures
