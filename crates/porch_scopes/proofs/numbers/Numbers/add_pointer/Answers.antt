use Rattle.std.proofs.Common.{refl}
use Rattle.porch_scopes.proofs.Placed.{pointer_adds}
use Rattle.porch_scopes.proofs.numbers.Numbers.add_pointer.Goals as goal

pub returns-clause-added : goal.returns-clause-added
returns-clause-added c = pointer_adds c.args.self.now _ c.args.to c.args.number c.in_ok-insert.ensures.updates.0 refl refl
