use Rattle.std.proofs.Common.{◌+◌, ◌<◌, length, drop, sym, arith, length-drop}
use Rattle.porch_lower.proofs.Expressions.{other_factor}
use Rattle.porch_lower.proofs.expression.factor_place.Goals as goal

pub returns-else-index-factors : goal.returns-else-index-factors
returns-else-index-factors c =
    let more : 0 < length (drop (c.args.index + 1) c.args.factors.now) = simp length-drop (omega arith) in
    sym (other_factor (drop (c.args.index + 1) c.args.factors.now) c.args.to c.args.from more)
