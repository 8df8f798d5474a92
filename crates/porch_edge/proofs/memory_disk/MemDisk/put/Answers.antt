use Rattle.std.proofs.Common.{◌+◌, refl, arith}
use Rattle.porch_edge.proofs.Logged.{kept_put, follows_put, passes_put}
use Rattle.porch_edge.proofs.MemorySteps.{past_logged}
use Rattle.porch_edge.proofs.memory_disk.MemDisk.put.Goals as goal

pub returns-clause-leaves : goal.returns-clause-leaves
returns-clause-leaves c = follows_put c.args.bytes.now c.args.self.now.kept c.if-bytes-gt-LONGEST.false c.in_ok-put.ensures.ok

pub returns-clause-time : goal.returns-clause-time
returns-clause-time c = passes_put c.args.bytes.now c.args.self.now.kept c.if-bytes-gt-LONGEST.false c.in_ok-put.ensures.ok c.args.self.now.clock refl

pub invariant_of-self-2 : goal.invariant_of-self-2
invariant_of-self-2 c = record {
  kept = kept_put c.args.bytes.now c.args.self.now.kept c.if-bytes-gt-LONGEST.false c.in_ok-put.ensures.ok;
  past = omega (arith, past_logged _ _ _ _ _ _ _ (c.args.self.now.clock + 1) c.in_ok-put.ensures.ok);
}
