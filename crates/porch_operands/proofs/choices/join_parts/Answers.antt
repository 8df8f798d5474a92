use Rattle.std.proofs.Common.{ap, ◌∙◌}
use Rattle.porch_check.specs.Operators.{chosen_form}
use Rattle.porch_operands.specs.Views.{as_value, typed_with}
use Rattle.porch_operands.proofs.choices.join_parts.Goals as goal

pub returns-in-Integer : goal.returns-in-Integer
returns-in-Integer c k a b =
    ap (λ v. chosen_form c.args.at k (typed_with a c.args.chosen) (as_value v) (typed_with b c.args.other) (as_value c.args.other.value)) c.in-Integer.is
    ∙ c.with_integer.ensures k a b

pub returns-in-Address : goal.returns-in-Address
returns-in-Address c k a b =
    ap (λ v. chosen_form c.args.at k (typed_with a c.args.chosen) (as_value v) (typed_with b c.args.other) (as_value c.args.other.value)) c.in-Address.is
    ∙ c.with_pointer.ensures k (typed_with a c.args.chosen) b

pub returns-in-NoAddress : goal.returns-in-NoAddress
returns-in-NoAddress c k a b =
    ap (λ v. chosen_form c.args.at k (typed_with a c.args.chosen) (as_value v) (typed_with b c.args.other) (as_value c.args.other.value)) c.in-NoAddress.is
    ∙ c.with_null.ensures k a b

pub returns-in-Record : goal.returns-in-Record
returns-in-Record c k a b =
    ap (λ v. chosen_form c.args.at k (typed_with a c.args.chosen) (as_value v) (typed_with b c.args.other) (as_value c.args.other.value)) c.in-Record.is
    ∙ c.with_structure.ensures k a b

pub returns-in-Nothing : goal.returns-in-Nothing
returns-in-Nothing c k a b =
    ap (λ v. chosen_form c.args.at k (typed_with a c.args.chosen) (as_value v) (typed_with b c.args.other) (as_value c.args.other.value)) c.in-Nothing.is
    ∙ c.with_nothing.ensures k a b
