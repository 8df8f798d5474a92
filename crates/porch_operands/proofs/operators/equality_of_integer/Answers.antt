use Rattle.std.proofs.Common.{ap, ◌∙◌}
use Rattle.porch_check.specs.Operands.{integer}
use Rattle.porch_check.specs.Operators.{equality}
use Rattle.porch_operands.specs.Views.{as_value, typed_with}
use Rattle.porch_operands.proofs.operators.equality_of_integer.Goals as goal

pub returns-in-NoAddress : goal.returns-in-NoAddress
returns-in-NoAddress c a b =
    ap (λ v. equality c.args.how c.args.at (typed_with a c.args.left) (integer c.args.kind) (typed_with b c.args.right) (as_value v)) c.in-NoAddress.is
    ∙ c.nulls.ensures a b

pub returns-in-Record : goal.returns-in-Record
returns-in-Record c a b =
    ap (λ v. equality c.args.how c.args.at (typed_with a c.args.left) (integer c.args.kind) (typed_with b c.args.right) (as_value v)) c.in-Record.is
    ∙ c.nulls-in-Record.ensures a b

pub returns-in-Nothing : goal.returns-in-Nothing
returns-in-Nothing c a b =
    ap (λ v. equality c.args.how c.args.at (typed_with a c.args.left) (integer c.args.kind) (typed_with b c.args.right) (as_value v)) c.in-Nothing.is
    ∙ c.nulls-in-Nothing.ensures a b
