use Rattle.porch_bytes.proofs.ReadBack.{read_back}
use Rattle.porch_bytes.proofs.laws.numbers_are_read_back.Goals as goal

pub returns : goal.returns
returns c = record { back = read_back }
