use Rattle.porch_typing.proofs.Beginning.{first_state}
use Rattle.porch_typing.proofs.laws.a_text_begins_in_order.Goals as goal

pub returns : goal.returns
returns c = first_state
