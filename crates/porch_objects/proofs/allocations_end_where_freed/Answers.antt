use Rattle.porch_objects.proofs.Allocations.{ends_where_freed}
use Rattle.porch_objects.proofs.allocations_end_where_freed.Goals as goal

pub returns : goal.returns
returns c = ends_where_freed
