use Rattle.std.proofs.Common.{take}
use Rattle.porch_output.proofs.Begins.{fewer}
use Rattle.porch_output.proofs.Keeps.{cuts, syncs, lasts}
use Rattle.porch_output.proofs.output.Output.cut_back.Goals as goal

pub returns-in_err-cut-clause-keeps : goal.returns-in_err-cut-clause-keeps
returns-in_err-cut-clause-keeps g c = λ kept leaves.
    cuts (g.D.Disk.state c.args.disk.now) (g.D.Disk.state c.cut.new.self) kept c.args.to c.cut.result (g.met.D.Disk.only_now c.args.disk.now) leaves c.cut.ensures.step

pub returns-in_err-cut-clause-since : goal.returns-in_err-cut-clause-since
returns-in_err-cut-clause-since g c = λ kept mark since.
    lasts (g.D.Disk.state c.args.disk.now) (g.D.Disk.state c.cut.new.self) kept (take c.args.to kept) mark (g.met.D.Disk.counts_now c.args.disk.now) (fewer c.args.to kept)
    (returns-in_err-cut-clause-keeps g c kept) since

pub returns-in_err-sync-clause-keeps : goal.returns-in_err-sync-clause-keeps
returns-in_err-sync-clause-keeps g c = λ kept leaves.
    let s = g.D.Disk.state c.args.disk.now in
    let t = g.D.Disk.state c.cut.new.self in
    syncs s t (g.D.Disk.state c.sync.new.self) (take c.args.to kept) c.sync.result c.sync.ensures.step
    (cuts s t kept c.args.to c.cut.result (g.met.D.Disk.only_now c.args.disk.now) leaves c.cut.ensures.step)

pub returns-in_err-sync-clause-since : goal.returns-in_err-sync-clause-since
returns-in_err-sync-clause-since g c = λ kept mark since.
    lasts (g.D.Disk.state c.args.disk.now) (g.D.Disk.state c.sync.new.self) kept (take c.args.to kept) mark (g.met.D.Disk.counts_now c.args.disk.now) (fewer c.args.to kept)
    (returns-in_err-sync-clause-keeps g c kept) since

pub returns-clause-keeps : goal.returns-clause-keeps
returns-clause-keeps g c = λ kept leaves.
    let s = g.D.Disk.state c.args.disk.now in
    let t = g.D.Disk.state c.cut.new.self in
    syncs s t (g.D.Disk.state c.sync.new.self) (take c.args.to kept) c.sync.result c.sync.ensures.step
    (cuts s t kept c.args.to c.cut.result (g.met.D.Disk.only_now c.args.disk.now) leaves c.cut.ensures.step)

pub returns-clause-since : goal.returns-clause-since
returns-clause-since g c = λ kept mark since.
    lasts (g.D.Disk.state c.args.disk.now) (g.D.Disk.state c.sync.new.self) kept (take c.args.to kept) mark (g.met.D.Disk.counts_now c.args.disk.now) (fewer c.args.to kept)
    (returns-clause-keeps g c kept) since
