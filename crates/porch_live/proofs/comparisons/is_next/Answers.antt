use Rattle.std.proofs.Common.{◌+◌, nat_eq, sym, ap, ◌∙◌}
use Rattle.porch_live.proofs.comparisons.is_next.Goals as goal

pub returns-then-same_home : goal.returns-then-same_home
returns-then-same_home c =
    let h = sym (c.same_home.ensures c.args.types.now c.args.pointee) ∙ c.if-same_home.true in
    rw h (c.is_sum.ensures ∙ ap (λ n. nat_eq c.args.leaf (c.args.end + n)) c.leaves_of.ensures.value)

pub returns-else-same_home : goal.returns-else-same_home
returns-else-same_home c =
    let h = sym (c.same_home.ensures c.args.types.now c.args.pointee) ∙ c.if-same_home.false in rw h c.if-same_home.false
