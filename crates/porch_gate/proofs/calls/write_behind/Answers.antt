use Rattle.porch_gate.proofs.Moments.{behind_write, reads_first, front_stays, stays_closed, wrote_now}
use Rattle.porch_gate.proofs.calls.write_behind.Goals as goal

pub returns-clause-now : goal.returns-clause-now
returns-clause-now g c = wrote_now (g.D.Disk.state c.args.disk.now) (g.D.Disk.state c.write_at.new.self) c.args.file c.args.at c.args.piece.now c.write_at.result c.write_at.ensures.step

pub returns-clause-moments : goal.returns-clause-moments
returns-clause-moments g c =
    behind_write (g.D.Disk.state c.args.disk.now) c.args.file (g.met.D.Disk.only_now c.args.disk.now) c.requires.some c.requires.front (g.D.Disk.state c.write_at.new.self) c.args.at c.args.piece.now c.write_at.result
    c.requires.behind c.write_at.ensures.step

pub returns-clause-first : goal.returns-clause-first
returns-clause-first g c =
    reads_first (g.D.Disk.state c.args.disk.now) (g.D.Disk.state c.write_at.new.self) c.args.file (g.met.D.Disk.reads_leave c.write_at.new.self) (returns-clause-moments g c)

pub returns-clause-front : goal.returns-clause-front
returns-clause-front g c =
    front_stays (g.D.Disk.state c.args.disk.now) (g.D.Disk.state c.write_at.new.self) c.args.file (g.met.D.Disk.reads_leave c.write_at.new.self) (returns-clause-moments g c)

pub returns-clause-closed : goal.returns-clause-closed
returns-clause-closed g c = λ gate none. stays_closed (g.D.Disk.state c.args.disk.now) (g.D.Disk.state c.write_at.new.self) c.args.file gate none (returns-clause-moments g c)
