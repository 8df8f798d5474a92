use Rattle.porch_lex.proofs.Readings.{only_from, fault_from}
use Rattle.porch_lex.proofs.lexer.lex.Goals as goal

pub returns-clause-only : goal.returns-clause-only
returns-clause-only c = only_from c.args.text.now c.read.result c.read.ensures.read c.read.ensures.refused

pub returns-clause-fault : goal.returns-clause-fault
returns-clause-fault c = fault_from c.args.text.now c.read.result c.read.ensures.read c.read.ensures.refused
