use Rattle.porch_types.specs.Entries.{types_of}
use Rattle.porch_types.proofs.Putting.{kinds_put, few_put}
use Rattle.porch_types.proofs.types.Types.add.Goals as goal

pub invariant_of-self-2 : goal.invariant_of-self-2
invariant_of-self-2 c = record {
  kinds = kinds_put (types_of c.self.inside.entries.items) (types_of c.put.new.entries.items) c.args.ty c.self.invariant.kinds c.in_ok-put.ensures.ok;
  few = few_put (types_of c.self.inside.entries.items) (types_of c.put.new.entries.items) c.args.self.now c.args.ty c.in_ok-put.ensures.ok c.self.view_is c.requires.few;
  kept = c.in_ok-put.ensures.kept;
}
