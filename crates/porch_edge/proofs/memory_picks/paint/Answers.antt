use Rattle.std.proofs.Common.{◌≡◌, ◌+◌, ◌∙◌, ap, get_or, if◌then◌else◌, ℕ, arith}
use Rattle.porch_edge.proofs.Painted.{painted_is}
use Rattle.porch_edge.specs.Picks.{is_between}
use Rattle.porch_edge.proofs.memory_picks.paint.Goals as goal

pub returns : goal.returns
returns c = painted_is c.args.byte (is_between c.args.from c.args.to) 0 c.args.bytes.now c.loop-place.bytes c.loop-place.invariant.whole (λ i lt.
    let same : i ≡ 0 + i = omega arith in
    c.loop-place.invariant.done i (omega arith) ∙ ap (λ (j : ℕ). if is_between c.args.from c.args.to j then c.args.byte else get_or c.args.bytes.now i 0) same)
