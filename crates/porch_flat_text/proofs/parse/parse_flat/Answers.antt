-- What reading answers, by what was read.
use Rattle.porch_flat_text.proofs.Parsed.{read_again, only, refused}
use Rattle.porch_flat_text.proofs.parse.parse_flat.Goals as goal

pub returns-clause-read : goal.returns-clause-read
returns-clause-read c = read_again c.args.text.now c.read_flat.result c.read_flat.ensures.parsed

pub returns-clause-only : goal.returns-clause-only
returns-clause-only c = only c.args.text.now c.read_flat.result c.read_flat.ensures.parsed c.read_flat.ensures.refused

pub returns-clause-refused : goal.returns-clause-refused
returns-clause-refused c = refused c.args.text.now c.read_flat.result c.read_flat.ensures.refused
