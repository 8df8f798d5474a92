use Rattle.porch_edge.specs.Runs.{looks_join}
use Rattle.porch_store.proofs.Starts.{attached, ready_is}
use Rattle.porch_store.proofs.store.Store.attach.Goals as goal

pub returns-clause-ready : goal.returns-clause-ready
returns-clause-ready g c =
    ready_is c.resting.result (g.D.Disk.state c.open_number-2.new.disk) _ _ c.resting.ensures.newest c.resting.ensures.number
    (attached (g.D.Disk.state c.settle.new.disk) (g.D.Disk.state c.open_number.new.disk) (g.D.Disk.state c.open_number-2.new.disk) c.rank-newest.result.0 c.rank-newest.result.1 c.in_ok-first.first c.in_ok-second.second
    c.rank-newest.ensures.newest c.rank-newest.ensures.number c.in_ok-settle.ensures.settled_a c.in_ok-settle.ensures.settled_b c.in_ok-first.ensures.answer c.in_ok-first.ensures.looks c.in_ok-second.ensures.answer c.in_ok-second.ensures.looks)

pub returns-in_err-first-clause-looks : goal.returns-in_err-first-clause-looks
returns-in_err-first-clause-looks g c = looks_join (g.D.Disk.state c.args.disk.now) (g.D.Disk.state c.settle.new.disk) (g.D.Disk.state c.open_number.new.disk) c.settle.ensures.looks c.open_number.ensures.looks

pub returns-in_err-second-clause-looks : goal.returns-in_err-second-clause-looks
returns-in_err-second-clause-looks g c =
    let s0 = g.D.Disk.state c.args.disk.now in
    let s1 = g.D.Disk.state c.settle.new.disk in
    let s2 = g.D.Disk.state c.open_number.new.disk in
    looks_join s0 s2 (g.D.Disk.state c.open_number-2.new.disk) (looks_join s0 s1 s2 c.settle.ensures.looks c.open_number.ensures.looks) c.open_number-2.ensures.looks

pub returns-clause-looks : goal.returns-clause-looks
returns-clause-looks g c =
    let s0 = g.D.Disk.state c.args.disk.now in
    let s1 = g.D.Disk.state c.settle.new.disk in
    let s2 = g.D.Disk.state c.open_number.new.disk in
    looks_join s0 s2 (g.D.Disk.state c.open_number-2.new.disk) (looks_join s0 s1 s2 c.settle.ensures.looks c.open_number.ensures.looks) c.open_number-2.ensures.looks
