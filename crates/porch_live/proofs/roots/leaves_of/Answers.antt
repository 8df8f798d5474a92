use Rattle.std.proofs.Common.{sym, arith}
use Rattle.porch_live.proofs.Unknown.{no_leaves}
use Rattle.porch_live.proofs.roots.leaves_of.Goals as goal

pub returns-else-ty-len-clause-value : goal.returns-else-ty-len-clause-value
returns-else-ty-len-clause-value c = sym (no_leaves c.args.types.now c.args.ty (omega (arith, c.len.ensures.length)))
