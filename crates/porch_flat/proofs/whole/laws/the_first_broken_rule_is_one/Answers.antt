use Rattle.porch_flat.proofs.Faults.{none_of_valid, one_line, one_rule}
use Rattle.porch_flat.proofs.whole.laws.the_first_broken_rule_is_one.Goals as goal

pub returns-clause-lines : goal.returns-clause-lines
returns-clause-lines c = one_line

pub returns-clause-rules : goal.returns-clause-rules
returns-clause-rules c = one_rule

pub returns-clause-none : goal.returns-clause-none
returns-clause-none c = none_of_valid
