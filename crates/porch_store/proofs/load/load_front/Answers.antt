use Rattle.porch_edge.specs.Runs.{len_looks, looks_join}
use Rattle.porch_store.proofs.load.load_front.Goals as goal

pub returns-clause-looks : goal.returns-clause-looks
returns-clause-looks g c =
    let s0 = g.D.Disk.state c.args.disk.now in
    let s1 = g.D.Disk.state c.len.new.self in
    looks_join s0 s1 (g.D.Disk.state c.load_some.new.disk) (len_looks s0 s1 c.args.file (g.met.D.Disk.only_now c.args.disk.now) c.len.result c.len.ensures.step) c.load_some.ensures.looks
