use Rattle.std.proofs.Common.{◌∙◌}
use Rattle.porch_tree.specs.Views.{core_of}
use Rattle.porch_parts.proofs.Voids.{not_both, some_brackets, bare}
use Rattle.porch_parts.proofs.ended.is_empty.Goals as goal

pub returns-then-not-is_empty-2 : goal.returns-then-not-is_empty-2
returns-then-not-is_empty-2 c = λ text.
    some_brackets text c.args.declaring.now.at c.args.declaring.now.stars (core_of text c.args.declaring.now.core) c.args.declaring.now.brackets
    (λ e. not_both c.is_empty-2.result (c.is_empty-2.ensures.1 e) c.if-not-is_empty-2.true)

pub returns : goal.returns
returns c = λ text. c.is_lacking.ensures text
    ∙ bare text c.args.declaring.now.at c.args.declaring.now.stars (core_of text c.args.declaring.now.core) c.args.declaring.now.brackets
    (c.is_empty.ensures.0 c.if-not-is_empty.false) (c.is_empty-2.ensures.0 c.if-not-is_empty-2.false)
