use Rattle.std.proofs.Common.{◌≡◌, ◌+◌, ◌∙◌, rules}
use Rattle.porch_emitter.specs.Pools.{used_in}
use Rattle.porch_emitter.proofs.Numbers.{one_more}
use Rattle.porch_emitter.proofs.pools.Pools.take.Goals as goal

pub returns-clause-used : goal.returns-clause-used
returns-clause-used c =
    let next : c.in-Some.more ≡ c.used-used.result + 1 = search rules in
    c.in_ok-set_used.ensures.used ∙ one_more (used_in c.args.self.now) c.args.ty c.used-used.result c.in-Some.more c.used-used.ensures next
