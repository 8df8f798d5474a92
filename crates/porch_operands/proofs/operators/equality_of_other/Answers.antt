use Rattle.std.proofs.Common.{ap, ◌∙◌}
use Rattle.porch_check.specs.Operands.{no_address, record_of, nothing}
use Rattle.porch_check.specs.Operators.{equality}
use Rattle.porch_operands.specs.Views.{as_value, typed_with}
use Rattle.porch_operands.proofs.operators.equality_of_other.Goals as goal

pub returns-in-Integer : goal.returns-in-Integer
returns-in-Integer c =
    record {
      no_address = λ a b. ap (λ v. equality c.args.how c.args.at (typed_with a c.args.left) no_address (typed_with b c.args.right) (as_value v)) c.in-Integer.is ∙ c.nulls.ensures a b;
      structures = λ a b n. ap (λ v. equality c.args.how c.args.at (typed_with a c.args.left) (record_of n) (typed_with b c.args.right) (as_value v)) c.in-Integer.is ∙ c.nulls.ensures a b;
      nothing = λ a b. ap (λ v. equality c.args.how c.args.at (typed_with a c.args.left) nothing (typed_with b c.args.right) (as_value v)) c.in-Integer.is ∙ c.nulls.ensures a b;
    }

pub returns-in-NoAddress : goal.returns-in-NoAddress
returns-in-NoAddress c =
    record {
      no_address = λ a b. ap (λ v. equality c.args.how c.args.at (typed_with a c.args.left) no_address (typed_with b c.args.right) (as_value v)) c.in-NoAddress.is ∙ c.nulls-in-NoAddress.ensures a b;
      structures = λ a b n. ap (λ v. equality c.args.how c.args.at (typed_with a c.args.left) (record_of n) (typed_with b c.args.right) (as_value v)) c.in-NoAddress.is ∙ c.nulls-in-NoAddress.ensures a b;
      nothing = λ a b. ap (λ v. equality c.args.how c.args.at (typed_with a c.args.left) nothing (typed_with b c.args.right) (as_value v)) c.in-NoAddress.is ∙ c.nulls-in-NoAddress.ensures a b;
    }

pub returns-in-Record : goal.returns-in-Record
returns-in-Record c =
    record {
      no_address = λ a b. ap (λ v. equality c.args.how c.args.at (typed_with a c.args.left) no_address (typed_with b c.args.right) (as_value v)) c.in-Record.is ∙ c.nulls-in-Record.ensures a b;
      structures = λ a b n. ap (λ v. equality c.args.how c.args.at (typed_with a c.args.left) (record_of n) (typed_with b c.args.right) (as_value v)) c.in-Record.is ∙ c.nulls-in-Record.ensures a b;
      nothing = λ a b. ap (λ v. equality c.args.how c.args.at (typed_with a c.args.left) nothing (typed_with b c.args.right) (as_value v)) c.in-Record.is ∙ c.nulls-in-Record.ensures a b;
    }

pub returns-in-Nothing : goal.returns-in-Nothing
returns-in-Nothing c =
    record {
      no_address = λ a b. ap (λ v. equality c.args.how c.args.at (typed_with a c.args.left) no_address (typed_with b c.args.right) (as_value v)) c.in-Nothing.is ∙ c.nulls-in-Nothing.ensures a b;
      structures = λ a b n. ap (λ v. equality c.args.how c.args.at (typed_with a c.args.left) (record_of n) (typed_with b c.args.right) (as_value v)) c.in-Nothing.is ∙ c.nulls-in-Nothing.ensures a b;
      nothing = λ a b. ap (λ v. equality c.args.how c.args.at (typed_with a c.args.left) nothing (typed_with b c.args.right) (as_value v)) c.in-Nothing.is ∙ c.nulls-in-Nothing.ensures a b;
    }
