use Rattle.std.proofs.Common.{arith}
use Rattle.porch_syntax.proofs.Parses.{text_read, text_only}
use Rattle.porch_syntax.proofs.parser.parse.Goals as goal

pub returns-else-text-gt-MOST_BYTES-clause-read : goal.returns-else-text-gt-MOST_BYTES-clause-read
returns-else-text-gt-MOST_BYTES-clause-read c = text_read c.args.text.now c.read.result (omega arith) c.read.ensures

pub returns-else-text-gt-MOST_BYTES-clause-only : goal.returns-else-text-gt-MOST_BYTES-clause-only
returns-else-text-gt-MOST_BYTES-clause-only c = text_only c.args.text.now c.read.result c.read.ensures
