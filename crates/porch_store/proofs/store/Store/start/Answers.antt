use Rattle.porch_store.proofs.Commits.{closing}
use Rattle.porch_store.proofs.Lists.{not_open, closed_first}
use Rattle.porch_store.proofs.Starts.{ready_is, shuts_join, shuts_look, shuts_a, shuts_b, b_stays, started}
use Rattle.porch_edge.specs.declared.disk.FileName.TheVariants.{CkA, CkB}
use Rattle.porch_gate.specs.Gates.{closed_bytes, OldOrClosed}
use Rattle.porch_store.proofs.store.Store.start.Goals as goal

pub close-requires-2 : goal.close-requires-2
close-requires-2 g c = b_stays (g.D.Disk.state c.settle.new.disk) (g.D.Disk.state c.close.new.disk) (OldOrClosed c.checkpoint-gate.result) c.in_ok-settle.ensures.settled_b c.close.ensures.moments

pub returns-in_err-settle-clause-moments : goal.returns-in_err-settle-clause-moments
returns-in_err-settle-clause-moments g c = shuts_look (g.D.Disk.state c.args.disk.now) (g.D.Disk.state c.settle.new.disk) c.settle.ensures.looks

pub returns-in_err-close-clause-moments : goal.returns-in_err-close-clause-moments
returns-in_err-close-clause-moments g c =
    let s0 = g.D.Disk.state c.args.disk.now in
    let s1 = g.D.Disk.state c.settle.new.disk in
    let s2 = g.D.Disk.state c.close.new.disk in
    let gate = c.checkpoint-gate in
    shuts_join s0 s1 s2 (shuts_look s0 s1 c.settle.ensures.looks)
    (shuts_a s1 s2 (g.met.D.Disk.reads_leave c.close.new.disk) c.in_ok-settle.ensures.settled_a (closing gate.result gate.ensures.letter gate.ensures.least s1 s2 CkA c.close.ensures.moments))

pub returns-in_err-close-2-clause-moments : goal.returns-in_err-close-2-clause-moments
returns-in_err-close-2-clause-moments g c =
    let s0 = g.D.Disk.state c.args.disk.now in
    let s1 = g.D.Disk.state c.settle.new.disk in
    let s2 = g.D.Disk.state c.close.new.disk in
    let s3 = g.D.Disk.state c.close-2.new.disk in
    let gate = c.checkpoint-gate in
    let first = shuts_join s0 s1 s2 (shuts_look s0 s1 c.settle.ensures.looks)
    (shuts_a s1 s2 (g.met.D.Disk.reads_leave c.close.new.disk) c.in_ok-settle.ensures.settled_a (closing gate.result gate.ensures.letter gate.ensures.least s1 s2 CkA c.close.ensures.moments)) in
    shuts_join s0 s2 s3 first
    (shuts_b s2 s3 (g.met.D.Disk.reads_leave c.close-2.new.disk) (b_stays s1 s2 (OldOrClosed gate.result) c.in_ok-settle.ensures.settled_b c.close.ensures.moments)
    (closing gate.result gate.ensures.letter gate.ensures.least s2 s3 CkB c.close-2.ensures.moments))

pub returns-clause-moments : goal.returns-clause-moments
returns-clause-moments g c =
    let s0 = g.D.Disk.state c.args.disk.now in
    let s1 = g.D.Disk.state c.settle.new.disk in
    let s2 = g.D.Disk.state c.close.new.disk in
    let s3 = g.D.Disk.state c.close-2.new.disk in
    let gate = c.checkpoint-gate in
    let first = shuts_join s0 s1 s2 (shuts_look s0 s1 c.settle.ensures.looks)
    (shuts_a s1 s2 (g.met.D.Disk.reads_leave c.close.new.disk) c.in_ok-settle.ensures.settled_a (closing gate.result gate.ensures.letter gate.ensures.least s1 s2 CkA c.close.ensures.moments)) in
    shuts_join s0 s2 s3 first
    (shuts_b s2 s3 (g.met.D.Disk.reads_leave c.close-2.new.disk) (b_stays s1 s2 (OldOrClosed gate.result) c.in_ok-settle.ensures.settled_b c.close.ensures.moments)
    (closing gate.result gate.ensures.letter gate.ensures.least s2 s3 CkB c.close-2.ensures.moments))

pub returns-clause-ready : goal.returns-clause-ready
returns-clause-ready g c =
    let s1 = g.D.Disk.state c.settle.new.disk in
    let s2 = g.D.Disk.state c.close.new.disk in
    let s3 = g.D.Disk.state c.close-2.new.disk in
    let gate = c.checkpoint-gate in
    ready_is c.resting.result s3 _ _ c.resting.ensures.newest c.resting.ensures.number
    (started s1 s2 s3 (closed_bytes gate.result) (λ old. not_open (closed_bytes gate.result old) (closed_first gate.result gate.ensures.letter old).1) c.in_ok-close.ensures.now c.in_ok-close-2.ensures.now
    (closing gate.result gate.ensures.letter gate.ensures.least s2 s3 CkB c.close-2.ensures.moments))
