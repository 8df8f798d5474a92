use Rattle.std.proofs.Common.{◌+◌, ◌<◌, length, drop, sym, arith, length-drop}
use Rattle.porch_lower.proofs.Expressions.{other_term}
use Rattle.porch_lower.proofs.expression.term_place.Goals as goal

pub returns-else-index-terms : goal.returns-else-index-terms
returns-else-index-terms c =
    let more : 0 < length (drop (c.args.index + 1) c.args.terms.now) = simp length-drop (omega arith) in
    sym (other_term (drop (c.args.index + 1) c.args.terms.now) c.args.to c.args.from more)
