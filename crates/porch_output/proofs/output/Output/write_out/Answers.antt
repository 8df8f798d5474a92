use Rattle.std.proofs.Common.{◌≡◌, ℕ, List, ◌++◌, length, ap, subst, arith}
use Rattle.porch_edge.specs.Disk.{BothTell}
use Rattle.porch_output.proofs.Keeps.{writes, grows, ends_later}
use Rattle.porch_output.proofs.output.Output.write_out.Goals as goal

pub returns-in_err-write_at-clause-keeps : goal.returns-in_err-write_at-clause-keeps
returns-in_err-write_at-clause-keeps g c = λ start kept run.
    writes (g.D.Disk.state start) (g.D.Disk.state c.args.disk.now) (g.D.Disk.state c.write_at.new.self) kept c.as_slice.result.now c.args.self.now.written c.write_at.result
    (g.met.D.Disk.reads_leave c.args.disk.now) c.requires.ready c.write_at.ensures.step run

pub returns-clause-keeps : goal.returns-clause-keeps
returns-clause-keeps g c = λ start kept run.
    writes (g.D.Disk.state start) (g.D.Disk.state c.args.disk.now) (g.D.Disk.state c.write_at.new.self) kept c.as_slice.result.now c.args.self.now.written c.write_at.result
    (g.met.D.Disk.reads_leave c.args.disk.now) c.requires.ready c.write_at.ensures.step run

pub returns-clause-written : goal.returns-clause-written
returns-clause-written g c =
    let s = g.D.Disk.state c.args.disk.now in
    let t = g.D.Disk.state c.write_at.new.self in
    subst (λ (l : List ℕ). BothTell s.files t.files (λ fs gs. gs.output ≡ fs.output ++ l)) c.as_slice.ensures.value
    (grows s t c.as_slice.result.now c.args.self.now.written _ c.requires.ready c.in_ok-write_at.ensures.step)

pub returns-clause-ready : goal.returns-clause-ready
returns-clause-ready g c =
    let s = g.D.Disk.state c.args.disk.now in
    let t = g.D.Disk.state c.write_at.new.self in
    ends_later s t c.as_slice.result.now c.args.self.now.written _ (omega (arith, ap length c.as_slice.ensures.value, c.len.ensures.value)) c.requires.ready
    (grows s t c.as_slice.result.now c.args.self.now.written _ c.requires.ready c.in_ok-write_at.ensures.step)
