use Rattle.porch_values.proofs.Valid.{reduced_valid}
use Rattle.porch_values.proofs.results.complement.Goals as goal

pub returns-clause-valid : goal.returns-clause-valid
returns-clause-valid c = rw (c.settled.ensures, c.flipped-exact.ensures) (reduced_valid c.args.kind c.args.widths _)
