use Rattle.std.proofs.Common.{List, length, refl, ap}
use Rattle.porch_objects.specs.Store as store
use Rattle.porch_live.specs.declared.value.Value.TheVariants.{Indeterminate}
use Rattle.porch_live.specs.Views.{root_of}
use Rattle.porch_live.specs.inside.Leaves.{values_in}
use Rattle.porch_live.proofs.Alike.{all_become}
use Rattle.porch_live.proofs.object.Object.forget.Goals as goal

pub returns : goal.returns
returns c =
    let old = values_in c.self.inside.leaves in
    rw (← c.self.view_is)
    (ap (λ (vs : List store.Value). let o : store.Object = record { root = root_of c.self.inside.root; leaves = vs } in o)
    (all_become old (values_in c.fill.new.self) (length old) Indeterminate refl c.fill.ensures))
