use Rattle.porch_edge.specs.declared.disk.FileName.TheVariants.{CkA, CkB}
use Rattle.porch_edge.specs.Runs.{sync_looks, looks_join}
use Rattle.porch_store.proofs.settle.settle.Goals as goal

pub returns-clause-looks : goal.returns-clause-looks
returns-clause-looks g c =
    let s0 = g.D.Disk.state c.args.disk.now in
    let s1 = g.D.Disk.state c.sync.new.self in
    let s2 = g.D.Disk.state c.sync-2.new.self in
    looks_join s0 s1 s2 (sync_looks s0 s1 CkA (g.met.D.Disk.only_now c.args.disk.now) c.sync.result c.sync.ensures.step)
    (sync_looks s1 s2 CkB (g.met.D.Disk.only_now c.sync.new.self) c.sync-2.result c.sync-2.ensures.step)
