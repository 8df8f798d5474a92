use Rattle.porch_bytes.proofs.Parts.{parts_stay, encoded_length}
use Rattle.porch_bytes.proofs.laws.other_bytes_stay.Goals as goal

pub returns : goal.returns
returns c = record { parts = parts_stay; sizes = encoded_length }
