use Rattle.std.proofs.Common.{refl}
use Rattle.porch_scopes.proofs.Placed.{array_adds}
use Rattle.porch_scopes.proofs.numbers.Numbers.add_array.Goals as goal

pub returns-clause-added : goal.returns-clause-added
returns-clause-added c =
    array_adds c.args.self.now _ c.args.of c.args.count c.args.number
    (λ a n. c.in_ok-insert.ensures.updates.0 (record { of = a; count = n })) refl refl
