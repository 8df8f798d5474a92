use Rattle.std.proofs.Common.{List, map, replicate, ap, ◌∙◌}
use Rattle.porch_objects.specs.Store as store
use Rattle.porch_objects.specs.Store.{indeterminate}
use Rattle.porch_live.specs.declared.value.Value.TheVariants.{Indeterminate}
use Rattle.porch_live.specs.Views.{value_of, root_of}
use Rattle.porch_live.proofs.Alike.{alike}
use Rattle.porch_live.proofs.object.Object.fresh.Goals as goal

pub returns : goal.returns
returns c =
    ap (λ (vs : List store.Value). let o : store.Object = record { root = root_of c.args.root; leaves = vs } in o)
    (ap (λ vs. map value_of vs) c.in_ok-leaves.ensures
    ∙ alike c.leaves_in.result Indeterminate
    ∙ ap (λ n. replicate n indeterminate) c.leaves_in.ensures.value)
