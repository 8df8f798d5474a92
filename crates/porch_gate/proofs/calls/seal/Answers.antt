use Rattle.porch_gate.proofs.Moments.{behind_cut, behind_seal, reads_first, front_stays, stays_closed, sealed_now}
use Rattle.porch_gate.proofs.calls.seal.Goals as goal

pub returns-in_err-cut-clause-moments : goal.returns-in_err-cut-clause-moments
returns-in_err-cut-clause-moments g c =
    behind_cut (g.D.Disk.state c.args.disk.now) c.args.file (g.met.D.Disk.only_now c.args.disk.now) c.requires.some c.requires.front (g.D.Disk.state c.cut.new.self) c.args.len c.cut.result
    c.requires.left c.cut.ensures.step

pub returns-in_err-cut-clause-first : goal.returns-in_err-cut-clause-first
returns-in_err-cut-clause-first g c =
    reads_first (g.D.Disk.state c.args.disk.now) (g.D.Disk.state c.cut.new.self) c.args.file (g.met.D.Disk.reads_leave c.cut.new.self) (returns-in_err-cut-clause-moments g c)

pub returns-in_err-cut-clause-front : goal.returns-in_err-cut-clause-front
returns-in_err-cut-clause-front g c =
    front_stays (g.D.Disk.state c.args.disk.now) (g.D.Disk.state c.cut.new.self) c.args.file (g.met.D.Disk.reads_leave c.cut.new.self) (returns-in_err-cut-clause-moments g c)

pub returns-in_err-cut-clause-closed : goal.returns-in_err-cut-clause-closed
returns-in_err-cut-clause-closed g c = λ gate none. stays_closed (g.D.Disk.state c.args.disk.now) (g.D.Disk.state c.cut.new.self) c.args.file gate none (returns-in_err-cut-clause-moments g c)

pub returns-clause-now : goal.returns-clause-now
returns-clause-now g c = sealed_now (g.D.Disk.state c.args.disk.now) (g.D.Disk.state c.cut.new.self) (g.D.Disk.state c.sync.new.self) c.args.file c.args.len _ c.sync.result c.in_ok-cut.ensures.step c.sync.ensures.step

pub returns-clause-moments : goal.returns-clause-moments
returns-clause-moments g c =
    behind_seal (g.D.Disk.state c.args.disk.now) c.args.file (g.met.D.Disk.only_now c.args.disk.now) c.requires.some c.requires.front (g.D.Disk.state c.cut.new.self) c.args.len c.cut.result
    c.requires.left c.cut.ensures.step (g.D.Disk.state c.sync.new.self) c.sync.result c.sync.ensures.step

pub returns-clause-first : goal.returns-clause-first
returns-clause-first g c =
    reads_first (g.D.Disk.state c.args.disk.now) (g.D.Disk.state c.sync.new.self) c.args.file (g.met.D.Disk.reads_leave c.sync.new.self) (returns-clause-moments g c)

pub returns-clause-front : goal.returns-clause-front
returns-clause-front g c =
    front_stays (g.D.Disk.state c.args.disk.now) (g.D.Disk.state c.sync.new.self) c.args.file (g.met.D.Disk.reads_leave c.sync.new.self) (returns-clause-moments g c)

pub returns-clause-closed : goal.returns-clause-closed
returns-clause-closed g c = λ gate none. stays_closed (g.D.Disk.state c.args.disk.now) (g.D.Disk.state c.sync.new.self) c.args.file gate none (returns-clause-moments g c)
