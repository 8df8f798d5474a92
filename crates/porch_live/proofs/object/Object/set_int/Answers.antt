use Rattle.std.proofs.Common.{◌≡◌, List, map, ap, ◌∙◌, rules}
use Rattle.std.specs.Prelude.{slice_set}
use Rattle.std.proofs.lemmas.List.{map-set}
use Rattle.porch_objects.specs.Store as store
use Rattle.porch_live.specs.declared.value.Value.TheVariants.{Number}
use Rattle.porch_live.specs.Views.{value_of, root_of}
use Rattle.porch_live.specs.inside.Leaves.{values_in}
use Rattle.porch_live.proofs.object.Object.set_int.Goals as goal

pub returns : goal.returns
returns c =
    let is : values_in c.set_first_int.new.self ≡ slice_set (values_in c.self.inside.leaves) 0 (Number c.args.int) = search (rules, c.set_first_int.ensures) in
    rw (← c.self.view_is)
    (ap (λ (vs : List store.Value). let o : store.Object = record { root = root_of c.self.inside.root; leaves = vs } in o)
    (ap (λ vs. map value_of vs) is ∙ map-set value_of (values_in c.self.inside.leaves) 0 (Number c.args.int)))
