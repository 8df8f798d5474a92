use Rattle.std.proofs.Common.{List, map, ap, ◌∙◌}
use Rattle.std.proofs.lemmas.List.{map-set}
use Rattle.std.proofs.lemmas.Result.{on_ok_weaker, on_err_weaker}
use Rattle.porch_objects.specs.Store as store
use Rattle.porch_live.specs.Views.{value_of, root_of}
use Rattle.porch_live.specs.inside.Leaves.{values_in}
use Rattle.porch_live.proofs.object.Object.set_leaf.Goals as goal

pub returns-clause-set : goal.returns-clause-set
returns-clause-set c =
    rw (← c.self.view_is)
    (on_ok_weaker c.set.result (λ is.
    ap (λ (vs : List store.Value). let o : store.Object = record { root = root_of c.self.inside.root; leaves = vs } in o)
    (ap (λ vs. map value_of vs) is ∙ map-set value_of (values_in c.self.inside.leaves) c.args.leaf c.args.value)) c.set.ensures.set)

pub returns-clause-same : goal.returns-clause-same
returns-clause-same c =
    rw (← c.self.view_is)
    (on_err_weaker c.set.result (λ is.
    ap (λ (vs : List store.Value). let o : store.Object = record { root = root_of c.self.inside.root; leaves = vs } in o)
    (ap (λ vs. map value_of vs) is)) c.set.ensures.same)
