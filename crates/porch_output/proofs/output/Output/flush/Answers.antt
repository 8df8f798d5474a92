use Rattle.porch_output.proofs.Keeps.{starts, syncs, lasts}
use Rattle.porch_output.proofs.output.Output.flush.Goals as goal

pub returns-in_err-write_out-clause-keeps : goal.returns-in_err-write_out-clause-keeps
returns-in_err-write_out-clause-keeps g c = λ kept leaves.
    c.write_out.ensures.keeps c.args.disk.now kept (starts (g.D.Disk.state c.args.disk.now) kept (g.met.D.Disk.only_now c.args.disk.now) leaves)

pub returns-in_err-write_out-clause-since : goal.returns-in_err-write_out-clause-since
returns-in_err-write_out-clause-since g c = λ kept mark since.
    lasts (g.D.Disk.state c.args.disk.now) (g.D.Disk.state c.write_out.new.disk) kept kept mark (g.met.D.Disk.counts_now c.args.disk.now) (λ x begins. begins)
    (returns-in_err-write_out-clause-keeps g c kept) since

pub returns-in_err-sync-clause-keeps : goal.returns-in_err-sync-clause-keeps
returns-in_err-sync-clause-keeps g c = λ kept leaves.
    syncs (g.D.Disk.state c.args.disk.now) (g.D.Disk.state c.write_out.new.disk) (g.D.Disk.state c.sync.new.self) kept c.sync.result c.sync.ensures.step
    (c.write_out.ensures.keeps c.args.disk.now kept (starts (g.D.Disk.state c.args.disk.now) kept (g.met.D.Disk.only_now c.args.disk.now) leaves))

pub returns-in_err-sync-clause-since : goal.returns-in_err-sync-clause-since
returns-in_err-sync-clause-since g c = λ kept mark since.
    lasts (g.D.Disk.state c.args.disk.now) (g.D.Disk.state c.sync.new.self) kept kept mark (g.met.D.Disk.counts_now c.args.disk.now) (λ x begins. begins)
    (returns-in_err-sync-clause-keeps g c kept) since

pub returns-clause-keeps : goal.returns-clause-keeps
returns-clause-keeps g c = λ kept leaves.
    syncs (g.D.Disk.state c.args.disk.now) (g.D.Disk.state c.write_out.new.disk) (g.D.Disk.state c.sync.new.self) kept c.sync.result c.sync.ensures.step
    (c.write_out.ensures.keeps c.args.disk.now kept (starts (g.D.Disk.state c.args.disk.now) kept (g.met.D.Disk.only_now c.args.disk.now) leaves))

pub returns-clause-since : goal.returns-clause-since
returns-clause-since g c = λ kept mark since.
    lasts (g.D.Disk.state c.args.disk.now) (g.D.Disk.state c.sync.new.self) kept kept mark (g.met.D.Disk.counts_now c.args.disk.now) (λ x begins. begins)
    (returns-clause-keeps g c kept) since
