use Rattle.std.proofs.Common.{sym, ◌∙◌}
use Rattle.porch_tree.specs.Views.{base_of}
use Rattle.porch_parts.specs.Types.{declared_by}
use Rattle.porch_parts.specs.Shown.{declaring_of}
use Rattle.porch_parts.proofs.Voids.{other_param, first_param}
use Rattle.porch_parts.proofs.ended.is_void.Goals as goal

pub returns-then-not-is_bare_void : goal.returns-then-not-is_bare_void
returns-then-not-is_bare_void c = λ text.
    other_param text c.args.params.now (base_of text c.args.base.now) (declared_by (declaring_of text c.args.declaring.now)) (c.is_empty.ensures.0 c.if-not-is_empty.false) (sym (c.is_bare_void.ensures text) ∙ c.if-not-is_bare_void.true)

pub returns : goal.returns
returns c = λ text. c.is_empty-2.ensures text
    ∙ first_param text c.args.params.now (base_of text c.args.base.now) (declared_by (declaring_of text c.args.declaring.now)) (c.is_empty.ensures.0 c.if-not-is_empty.false) (sym (c.is_bare_void.ensures text) ∙ c.if-not-is_bare_void.false)
