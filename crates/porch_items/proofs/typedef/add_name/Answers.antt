use Rattle.std.proofs.Common.{subst, sym, List, Bor, ℕ}
use Rattle.porch_items.specs.inside.Reading.{AreTypes}
use Rattle.porch_items.proofs.Typedefs.{types_more}
use Rattle.porch_items.proofs.typedef.add_name.Goals as goal

pub returns : goal.returns
returns c = λ names h. rw c.in_ok-insert.ensures.keys (types_more c.args.types.now.keys c.args.name names h)
