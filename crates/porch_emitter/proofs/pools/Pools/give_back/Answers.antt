use Rattle.std.proofs.Common.{ap, ◌<◌, arith}
use Rattle.porch_lowering.specs.Code.{InUse}
use Rattle.porch_emitter.specs.Pools.{used_in}
use Rattle.porch_emitter.proofs.Numbers.{one_less, one_used}
use Rattle.porch_emitter.proofs.pools.Pools.give_back.Goals as goal

pub returns-then-used-gt0-clause-used : goal.returns-then-used-gt0-clause-used
returns-then-used-gt0-clause-used c = λ used e.
    one_less (used_in c.args.self.now) used (used_in c.put_used.new.self) c.args.ty c.used-used.result c.used-used.ensures e c.put_used.ensures.used

pub returns-else-used-gt0-clause-used : goal.returns-else-used-gt0-clause-used
returns-else-used-gt0-clause-used c = λ used e.
    let some : 0 < used_in c.args.self.now c.args.ty = one_used (used_in c.args.self.now) used c.args.ty (ap (λ (f : InUse). f c.args.ty) e) in
    absurd (omega arith)
