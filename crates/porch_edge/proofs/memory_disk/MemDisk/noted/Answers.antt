use Rattle.std.proofs.Common.{refl, arith, subst}
use Rattle.porch_edge.specs.inside.Kept.{Noted}
use Rattle.porch_edge.proofs.MemorySteps.{stays_unchanged, stays_noted, durable_noted, ticks}
use Rattle.porch_edge.proofs.memory_disk.MemDisk.noted.Goals as goal

pub returns-in-Ok-clause-stays : goal.returns-in-Ok-clause-stays
returns-in-Ok-clause-stays c = stays_noted c.args.self.now.files c.args.self.now.calls.items c.note.new.calls.items c.args.file c.args.change c.args.self.now.clock c.begin.new.clock
    c.requires c.args.self.now.kept (omega (arith, c.begin.ensures.moment, c.begin.ensures.before c.in-Goes.is)) c.in-Ok.ensures.ok

pub returns-in-Ok-clause-ticks : goal.returns-in-Ok-clause-ticks
returns-in-Ok-clause-ticks c = ticks c.args.self.now.files c.args.self.now.files c.args.self.now.calls.items c.note.new.calls.items c.args.self.now.clock c.begin.new.clock _ c.begin.ensures.within c.begin.ensures.moment (λ end. let no : ⊥ = omega (arith, end, c.begin.ensures.before c.in-Goes.is) in absurd no)

pub returns-in-Ok-clause-durable : goal.returns-in-Ok-clause-durable
returns-in-Ok-clause-durable c = λ is. durable_noted c.args.self.now.files c.args.self.now.calls.items c.note.new.calls.items c.args.file c.begin.new.clock
    (subst (λ x. Noted c.args.self.now.calls.items c.note.new.calls.items c.args.file x c.begin.new.clock) is c.in-Ok.ensures.ok)

pub returns-in-Err-clause-stays : goal.returns-in-Err-clause-stays
returns-in-Err-clause-stays c = stays_unchanged c.args.self.now.files c.args.self.now.files c.args.self.now.calls.items c.note.new.calls.items c.args.self.now.clock c.begin.new.clock refl c.in-Err.ensures.err (omega (arith, c.begin.ensures.moment, c.begin.ensures.within)) c.args.self.now.past

pub returns-in-Err-clause-ticks : goal.returns-in-Err-clause-ticks
returns-in-Err-clause-ticks c = ticks c.args.self.now.files c.args.self.now.files c.args.self.now.calls.items c.note.new.calls.items c.args.self.now.clock c.begin.new.clock _ c.begin.ensures.within c.begin.ensures.moment (λ end. (refl, refl, c.in-Err.ensures.err))

pub returns-in-Fails-clause-stays : goal.returns-in-Fails-clause-stays
returns-in-Fails-clause-stays c = stays_unchanged c.args.self.now.files c.args.self.now.files c.args.self.now.calls.items c.args.self.now.calls.items c.args.self.now.clock c.begin.new.clock refl refl (omega (arith, c.begin.ensures.moment, c.begin.ensures.within)) c.args.self.now.past

pub returns-in-Fails-clause-ticks : goal.returns-in-Fails-clause-ticks
returns-in-Fails-clause-ticks c = ticks c.args.self.now.files c.args.self.now.files c.args.self.now.calls.items c.args.self.now.calls.items c.args.self.now.clock c.begin.new.clock _ c.begin.ensures.within c.begin.ensures.moment (λ end. (refl, refl, refl))
