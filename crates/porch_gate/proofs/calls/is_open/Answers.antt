use Rattle.std.proofs.Common.{[], ◌∷◌}
use Rattle.porch_edge.specs.Runs.{len_looks, read_looks, looks_join}
use Rattle.porch_gate.proofs.calls.is_open.Goals as goal

pub returns-in_err-count-clause-looks : goal.returns-in_err-count-clause-looks
returns-in_err-count-clause-looks g c =
    let s0 = g.D.Disk.state c.args.disk.now in
    let s1 = g.D.Disk.state c.len.new.self in
    let s2 = g.D.Disk.state c.read.new.self in
    looks_join s0 s1 s2 (len_looks s0 s1 c.args.file (g.met.D.Disk.only_now c.args.disk.now) c.len.result c.len.ensures.step)
    (read_looks s1 s2 c.args.file (g.met.D.Disk.only_now c.len.new.self) 0 (0 ∷ []) c.read.new.buf c.read.result c.read.ensures.step)

pub returns-then-count-eq1-clause-looks : goal.returns-then-count-eq1-clause-looks
returns-then-count-eq1-clause-looks g c =
    let s0 = g.D.Disk.state c.args.disk.now in
    let s1 = g.D.Disk.state c.len.new.self in
    let s2 = g.D.Disk.state c.read.new.self in
    looks_join s0 s1 s2 (len_looks s0 s1 c.args.file (g.met.D.Disk.only_now c.args.disk.now) c.len.result c.len.ensures.step)
    (read_looks s1 s2 c.args.file (g.met.D.Disk.only_now c.len.new.self) 0 (0 ∷ []) c.read.new.buf c.read.result c.read.ensures.step)
