use Rattle.std.proofs.Common.{List, map, ap, ◌∙◌}
use Rattle.std.proofs.lemmas.List.{map-set}
use Rattle.porch_objects.specs.Store as store
use Rattle.porch_live.specs.Views.{value_of, root_of}
use Rattle.porch_live.specs.inside.Leaves.{values_in}
use Rattle.porch_live.proofs.object.Object.set_first.Goals as goal

pub returns : goal.returns
returns c =
    rw (← c.self.view_is)
    (ap (λ (vs : List store.Value). let o : store.Object = record { root = root_of c.self.inside.root; leaves = vs } in o)
    (ap (λ vs. map value_of vs) c.set_first.ensures ∙ map-set value_of (values_in c.self.inside.leaves) 0 c.args.value))
