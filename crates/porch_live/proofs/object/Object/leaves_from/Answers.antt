use Rattle.std.proofs.Common.{Vec, Global, ◌≡◌, map, take, drop, ap, ◌∙◌}
use Rattle.std.proofs.lemmas.Result.{IfOk-weaker}
use Rattle.porch_live.specs.declared.value.Value.{Value}
use Rattle.porch_live.specs.Views.{value_of}
use Rattle.porch_live.specs.inside.Leaves.{values_in}
use Rattle.porch_live.proofs.Parts.{seen_taken}
use Rattle.porch_live.proofs.object.Object.leaves_from.Goals as goal

pub returns : goal.returns
returns c =
    let old = values_in c.self.inside.leaves in
    rw (← c.self.view_is)
    (IfOk-weaker c.part.result
    (λ (part : Vec Value Global). part.items ≡ take c.args.count (drop c.args.leaf old))
    (λ (part : Vec Value Global). map value_of part.items ≡ take c.args.count (drop c.args.leaf (map value_of old)))
    (λ part is. ap (λ xs. map value_of xs) is ∙ seen_taken old c.args.leaf c.args.count) c.part.ensures)
