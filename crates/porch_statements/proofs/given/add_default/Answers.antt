use Rattle.porch_statements.proofs.given.add_default.Goals as goal

pub returns : goal.returns
returns c = record { step = c.add_entry.ensures }
