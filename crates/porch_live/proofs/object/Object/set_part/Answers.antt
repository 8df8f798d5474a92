use Rattle.std.proofs.Common.{List, ◌+◌, ◌≤◌, length, map, refl, ap, arith}
use Rattle.std.proofs.lemmas.Result.{on_ok_weaker, on_err_weaker}
use Rattle.porch_objects.specs.Store as store
use Rattle.porch_live.specs.Views.{value_of, root_of}
use Rattle.porch_live.specs.inside.Leaves.{values_in}
use Rattle.porch_live.proofs.Parts.{put_part}
use Rattle.porch_live.proofs.object.Object.set_part.Goals as goal

pub returns-then-values-len-clause-set : goal.returns-then-values-len-clause-set
returns-then-values-len-clause-set c =
    let old = values_in c.self.inside.leaves in
    let whole : store.Object = record { root = root_of c.self.inside.root; leaves = map value_of old } in
    let fits : c.args.at + length c.args.values.now ≤ length old = omega (arith, c.len-len.ensures) in
    rw (← c.self.view_is)
    (on_ok_weaker c.put_part.result (λ is. put_part whole old (values_in c.put_part.new.self) c.args.values.now c.args.at refl is fits) c.put_part.ensures.put)

pub returns-then-values-len-clause-same : goal.returns-then-values-len-clause-same
returns-then-values-len-clause-same c =
    rw (← c.self.view_is)
    (on_err_weaker c.put_part.result (λ is.
    ap (λ (vs : List store.Value). let o : store.Object = record { root = root_of c.self.inside.root; leaves = vs } in o)
    (ap (λ vs. map value_of vs) is)) c.put_part.ensures.same)
