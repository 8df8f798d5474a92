use Rattle.std.proofs.Common.{ap, ◌∙◌}
use Rattle.porch_check.specs.Operands.{integer}
use Rattle.porch_check.specs.Operators.{chosen_form}
use Rattle.porch_operands.specs.Views.{as_value, typed_with}
use Rattle.porch_operands.proofs.choices.with_integer.Goals as goal

pub returns-in-NoAddress : goal.returns-in-NoAddress
returns-in-NoAddress c k a b =
    ap (λ v. chosen_form c.args.at k (typed_with a c.args.chosen) (integer c.args.kind) (typed_with b c.args.other) (as_value v)) c.in-NoAddress.is
    ∙ c.nulls.ensures k a b

pub returns-in-Record : goal.returns-in-Record
returns-in-Record c k a b =
    ap (λ v. chosen_form c.args.at k (typed_with a c.args.chosen) (integer c.args.kind) (typed_with b c.args.other) (as_value v)) c.in-Record.is
    ∙ c.nulls-in-Record.ensures k a b

pub returns-in-Nothing : goal.returns-in-Nothing
returns-in-Nothing c k a b =
    ap (λ v. chosen_form c.args.at k (typed_with a c.args.chosen) (integer c.args.kind) (typed_with b c.args.other) (as_value v)) c.in-Nothing.is
    ∙ c.nulls-in-Nothing.ensures k a b
