use Rattle.porch_values.proofs.Valid.{converted_valid}
use Rattle.porch_values.proofs.results.convert.Goals as goal

pub returns-clause-valid : goal.returns-clause-valid
returns-clause-valid c = rw c.to_kind.ensures (converted_valid c.args.kind c.args.widths _)
