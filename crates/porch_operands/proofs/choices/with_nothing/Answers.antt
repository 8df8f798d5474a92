use Rattle.std.proofs.Common.{ap, ◌∙◌}
use Rattle.porch_check.specs.Operands.{nothing}
use Rattle.porch_check.specs.Operators.{chosen_form}
use Rattle.porch_operands.specs.Views.{as_value, typed_with}
use Rattle.porch_operands.proofs.choices.with_nothing.Goals as goal

pub returns-in-Integer : goal.returns-in-Integer
returns-in-Integer c k a b =
    ap (λ v. chosen_form c.args.at k (typed_with a c.args.chosen) nothing (typed_with b c.args.other) (as_value v)) c.in-Integer.is
    ∙ c.nulls.ensures k a b

pub returns-in-NoAddress : goal.returns-in-NoAddress
returns-in-NoAddress c k a b =
    ap (λ v. chosen_form c.args.at k (typed_with a c.args.chosen) nothing (typed_with b c.args.other) (as_value v)) c.in-NoAddress.is
    ∙ c.nulls-in-NoAddress.ensures k a b

pub returns-in-Record : goal.returns-in-Record
returns-in-Record c k a b =
    ap (λ v. chosen_form c.args.at k (typed_with a c.args.chosen) nothing (typed_with b c.args.other) (as_value v)) c.in-Record.is
    ∙ c.nulls-in-Record.ensures k a b
