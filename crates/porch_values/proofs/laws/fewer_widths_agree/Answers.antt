use Rattle.porch_values.proofs.FewerWidths.{applied_fewer, converted_fewer, complemented_fewer, value_fewer, right_fewer}
use Rattle.porch_values.proofs.laws.fewer_widths_agree.Goals as goal

pub returns-clause-operators : goal.returns-clause-operators
returns-clause-operators c = applied_fewer

pub returns-clause-conversions : goal.returns-clause-conversions
returns-clause-conversions c = converted_fewer

pub returns-clause-complements : goal.returns-clause-complements
returns-clause-complements c = complemented_fewer

pub returns-clause-values : goal.returns-clause-values
returns-clause-values c = value_fewer

pub returns-clause-operands : goal.returns-clause-operands
returns-clause-operands c = right_fewer
