use Rattle.std.proofs.Common.{negsuc, ◌-ℤ◌}
use Rattle.porch_values.proofs.FewerWidths.{applied_never, converted_never, reduced_never}
use Rattle.porch_values.proofs.laws.one_width_is_never_narrow.Goals as goal

pub returns-clause-operators : goal.returns-clause-operators
returns-clause-operators c = applied_never

pub returns-clause-conversions : goal.returns-clause-conversions
returns-clause-conversions c = converted_never

pub returns-clause-complements : goal.returns-clause-complements
returns-clause-complements c = λ kind widths a h. reduced_never kind widths (negsuc 0 -ℤ a) h
