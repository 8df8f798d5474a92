use Rattle.std.proofs.Common.{subst, sym}
use Rattle.porch_edge.specs.declared.disk.FileName.{FileName}
use Rattle.porch_edge.specs.Disk.{IsSettled, TouchesOnly, HasNow}
use Rattle.porch_gate.specs.Gates.{closed_bytes}
use Rattle.porch_store.specs.Taken.{OldOrShut}
use Rattle.porch_store.proofs.Commits.{closing, begin_settled, begin_keeps, begin_fills}
use Rattle.porch_store.proofs.store.Store.begin.Goals as goal

pub close-requires : goal.close-requires
close-requires g c =
    subst (λ (f : FileName). IsSettled (g.D.Disk.state c.args.disk.now) f) (sym c.older-file.ensures)
    (begin_settled c.args.self.now.newest c.args.self.now.number (g.D.Disk.state c.args.disk.now) c.requires.ready)

pub returns-in_err-close-clause-one_file : goal.returns-in_err-close-clause-one_file
returns-in_err-close-clause-one_file g c =
    let s0 = g.D.Disk.state c.args.disk.now in
    let s1 = g.D.Disk.state c.close.new.disk in
    let gate = c.checkpoint-gate in
    subst (λ (f : FileName). TouchesOnly s0 s1 f OldOrShut) c.older-file.ensures (closing gate.result gate.ensures.letter gate.ensures.least s0 s1 c.older-file.result c.close.ensures.moments)

pub returns-in_err-close-clause-moments : goal.returns-in_err-close-clause-moments
returns-in_err-close-clause-moments g c =
    begin_keeps c.args.self.now.newest c.args.self.now.number (g.D.Disk.state c.args.disk.now) (g.D.Disk.state c.close.new.disk) c.requires.ready c.requires.no_tie (returns-in_err-close-clause-one_file g c)

pub returns-clause-one_file : goal.returns-clause-one_file
returns-clause-one_file g c =
    let s0 = g.D.Disk.state c.args.disk.now in
    let s1 = g.D.Disk.state c.close.new.disk in
    let gate = c.checkpoint-gate in
    subst (λ (f : FileName). TouchesOnly s0 s1 f OldOrShut) c.older-file.ensures (closing gate.result gate.ensures.letter gate.ensures.least s0 s1 c.older-file.result c.close.ensures.moments)

pub returns-clause-moments : goal.returns-clause-moments
returns-clause-moments g c =
    begin_keeps c.args.self.now.newest c.args.self.now.number (g.D.Disk.state c.args.disk.now) (g.D.Disk.state c.close.new.disk) c.requires.ready c.requires.no_tie (returns-clause-one_file g c)

pub returns-clause-ready : goal.returns-clause-ready
returns-clause-ready g c =
    let s0 = g.D.Disk.state c.args.disk.now in
    let s1 = g.D.Disk.state c.close.new.disk in
    let gate = c.checkpoint-gate in
    begin_fills c.args.self.now.newest c.args.self.now.number s0 s1 c.requires.ready c.requires.no_tie (returns-clause-one_file g c) gate.result gate.ensures.letter c.args.number c.requires.greater
    (subst (λ (f : FileName). HasNow s0 s1 f (closed_bytes gate.result)) c.older-file.ensures c.in_ok-close.ensures.now)
