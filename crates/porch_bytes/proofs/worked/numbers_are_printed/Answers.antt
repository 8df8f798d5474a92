use Rattle.std.proofs.Common.{rules}
use Rattle.std.specs.Fmt.{digits}
use Rattle.porch_bytes.proofs.worked.numbers_are_printed.Goals as goal

pub returns : goal.returns
unfolding digits
returns c = search rules
