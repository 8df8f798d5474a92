-- Each program has one text.
use Rattle.porch_flat_text.proofs.Parsed.{one_text}
use Rattle.porch_flat_text.proofs.laws.texts_tell_programs_apart.Goals as goal

pub returns : goal.returns
returns c = one_text
