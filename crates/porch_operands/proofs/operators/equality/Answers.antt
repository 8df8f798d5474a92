use Rattle.std.proofs.Common.{ap, ◌∙◌}
use Rattle.porch_check.specs.Operators.{equality}
use Rattle.porch_operands.specs.Views.{as_value, typed_with}
use Rattle.porch_operands.proofs.operators.equality.Goals as goal

pub returns-in-Address : goal.returns-in-Address
returns-in-Address c a b =
    ap (λ v. equality c.args.how c.args.at (typed_with a c.args.left) (as_value v) (typed_with b c.args.right) (as_value c.args.right.value)) c.in-Address.is
    ∙ c.equality_of_pointer.ensures (typed_with a c.args.left) b c.in-Address.to

pub returns-in-Integer : goal.returns-in-Integer
returns-in-Integer c a b =
    ap (λ v. equality c.args.how c.args.at (typed_with a c.args.left) (as_value v) (typed_with b c.args.right) (as_value c.args.right.value)) c.in-Integer.is
    ∙ c.equality_of_integer.ensures a b

pub returns-in-NoAddress : goal.returns-in-NoAddress
returns-in-NoAddress c a b =
    ap (λ v. equality c.args.how c.args.at (typed_with a c.args.left) (as_value v) (typed_with b c.args.right) (as_value c.args.right.value)) c.in-NoAddress.is
    ∙ c.equality_of_other.ensures.no_address a b

pub returns-in-Record : goal.returns-in-Record
returns-in-Record c a b =
    ap (λ v. equality c.args.how c.args.at (typed_with a c.args.left) (as_value v) (typed_with b c.args.right) (as_value c.args.right.value)) c.in-Record.is
    ∙ c.equality_of_other-in-Record.ensures.structures a b c.in-Record.field-0

pub returns-in-Nothing : goal.returns-in-Nothing
returns-in-Nothing c a b =
    ap (λ v. equality c.args.how c.args.at (typed_with a c.args.left) (as_value v) (typed_with b c.args.right) (as_value c.args.right.value)) c.in-Nothing.is
    ∙ c.equality_of_other-in-Nothing.ensures.nothing a b
