use Rattle.porch_objects.proofs.Changes.{stores}
use Rattle.porch_objects.proofs.stores_one_leaf.Goals as goal

pub returns : goal.returns
returns c = stores
