use Rattle.porch_gate.proofs.Moments.{firsts_join, settled_front, some_stays, stays_closed, fill_now}
use Rattle.porch_gate.proofs.calls.fill.Goals as goal

pub write_behind-requires-clause-front : goal.write_behind-requires-clause-front
write_behind-requires-clause-front g c = settled_front (g.D.Disk.state c.args.disk.now) c.args.file c.requires.settled

pub seal-requires-clause-some : goal.seal-requires-clause-some
seal-requires-clause-some g c =
    some_stays (g.D.Disk.state c.args.disk.now) (g.D.Disk.state c.write_behind.new.disk) c.args.file (g.met.D.Disk.reads_leave c.write_behind.new.disk) c.write_behind.ensures.moments c.requires.some

pub returns-clause-now : goal.returns-clause-now
returns-clause-now g c =
    fill_now (g.D.Disk.state c.args.disk.now) (g.D.Disk.state c.write_behind.new.disk) (g.D.Disk.state c.seal.new.disk) c.args.file c.args.bytes.now c.seal.result
    c.requires.some c.in_ok-write_behind.ensures.now c.seal.ensures.now

pub returns-clause-moments : goal.returns-clause-moments
returns-clause-moments g c =
    firsts_join (g.D.Disk.state c.args.disk.now) (g.D.Disk.state c.write_behind.new.disk) c.args.file (g.met.D.Disk.reads_leave c.write_behind.new.disk) c.write_behind.ensures.moments
    (g.D.Disk.state c.seal.new.disk) c.seal.ensures.moments

pub returns-clause-closed : goal.returns-clause-closed
returns-clause-closed g c = λ gate none. stays_closed (g.D.Disk.state c.args.disk.now) (g.D.Disk.state c.seal.new.disk) c.args.file gate none (returns-clause-moments g c)
