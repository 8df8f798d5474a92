use Rattle.porch_syntax.proofs.Parses.{one_program}
use Rattle.porch_syntax.proofs.parser.a_text_is_one_program.Goals as goal

pub returns : goal.returns
returns c = one_program
