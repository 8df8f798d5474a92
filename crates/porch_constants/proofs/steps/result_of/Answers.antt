use Rattle.std.proofs.Common.{ap, ◌∙◌}
use Rattle.std.specs.Int.{w128}
use Rattle.std.proofs.lemmas.Int.{to_z-of_z}
use Rattle.porch_values.specs.Integers.{applied}
use Rattle.porch_check.specs.Constants.{known_if_ok}
use Rattle.porch_constants.proofs.steps.result_of.Goals as goal

pub returns : goal.returns
returns c =
    let value = rw (to_z-of_z w128 c.args.x c.ranges.x, to_z-of_z w128 c.args.y c.ranges.y) at c.apply.ensures.value in
    c.folded_from.ensures
    ∙ ap known_if_ok (value ∙ ap (λ w. applied c.args.op c.args.kind w c.args.x c.args.y) c.both_widths.ensures)
