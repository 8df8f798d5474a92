use Rattle.std.proofs.Common.{refl, arith}
use Rattle.porch_edge.proofs.MemorySteps.{stays_unchanged, ticks}
use Rattle.porch_edge.proofs.memory_disk.MemDisk.refused.Goals as goal

pub returns-clause-stays : goal.returns-clause-stays
returns-clause-stays c = stays_unchanged c.args.self.now.files c.args.self.now.files c.args.self.now.calls.items c.args.self.now.calls.items c.args.self.now.clock c.begin.new.clock refl refl (omega (arith, c.begin.ensures.moment, c.begin.ensures.within)) c.args.self.now.past

pub returns-clause-ticks : goal.returns-clause-ticks
returns-clause-ticks c = ticks c.args.self.now.files c.args.self.now.files c.args.self.now.calls.items c.args.self.now.calls.items c.args.self.now.clock c.begin.new.clock _ c.begin.ensures.within c.begin.ensures.moment (λ end. (refl, refl, refl))
