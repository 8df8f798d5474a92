use Rattle.std.proofs.Common.{Option, ap, ◌∙◌}
use Rattle.std.specs.Option.{unwrap_or}
use Rattle.std.proofs.lemmas.Option.{unwrap_or-slice_get}
use Rattle.porch_live.specs.declared.value.Value.{Value}
use Rattle.porch_live.specs.declared.value.Value.TheVariants.{Indeterminate}
use Rattle.porch_live.proofs.leaves.get_few.Goals as goal

pub returns-in-None : goal.returns-in-None
returns-in-None c =
    ap (λ (found : Option Value). unwrap_or found Indeterminate) c.in-None.ensures ∙ unwrap_or-slice_get c.args.values.now c.args.at Indeterminate
