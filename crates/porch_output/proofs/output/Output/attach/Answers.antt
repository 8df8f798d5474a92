use Rattle.porch_edge.specs.declared.disk.FileName.TheVariants.{Output as OutputFile}
use Rattle.porch_edge.specs.Runs.{len_looks, sync_looks, looks_join}
use Rattle.porch_output.proofs.output.Output.attach.Goals as goal

pub returns-in_err-written-clause-looks : goal.returns-in_err-written-clause-looks
returns-in_err-written-clause-looks g c =
    let s0 = g.D.Disk.state c.args.disk.now in
    let s1 = g.D.Disk.state c.sync.new.self in
    let s2 = g.D.Disk.state c.len.new.self in
    looks_join s0 s1 s2 (sync_looks s0 s1 OutputFile (g.met.D.Disk.only_now c.args.disk.now) c.sync.result c.sync.ensures.step)
    (len_looks s1 s2 OutputFile (g.met.D.Disk.only_now c.sync.new.self) c.len.result c.len.ensures.step)

pub returns-clause-looks : goal.returns-clause-looks
returns-clause-looks g c =
    let s0 = g.D.Disk.state c.args.disk.now in
    let s1 = g.D.Disk.state c.sync.new.self in
    let s2 = g.D.Disk.state c.len.new.self in
    looks_join s0 s1 s2 (sync_looks s0 s1 OutputFile (g.met.D.Disk.only_now c.args.disk.now) c.sync.result c.sync.ensures.step)
    (len_looks s1 s2 OutputFile (g.met.D.Disk.only_now c.sync.new.self) c.len.result c.len.ensures.step)
