use Rattle.std.proofs.Common.{IsTrue}
use Rattle.porch_edge.specs.Others.{len_spares, read_spares, write_spares, cut_spares, sync_spares, looks_spare, touches_spare}
use Rattle.porch_edge.proofs.laws.calls_spare.Goals as goal

pub returns-clause-len : goal.returns-clause-len
returns-clause-len g c = λ s t file other r step. len_spares (g.D.Disk.state s) (g.D.Disk.state t) (g.met.D.Disk.only_now s) other file r step

pub returns-clause-read : goal.returns-clause-read
returns-clause-read g c = λ s t file other at before after r step. read_spares (g.D.Disk.state s) (g.D.Disk.state t) (g.met.D.Disk.only_now s) other file at before after r step

pub returns-clause-write : goal.returns-clause-write
returns-clause-write g c = λ s t file other at bytes r apart step. write_spares (g.D.Disk.state s) (g.D.Disk.state t) (g.met.D.Disk.only_now s) other file at bytes r apart step

pub returns-clause-cut : goal.returns-clause-cut
returns-clause-cut g c = λ s t file other len r apart step. cut_spares (g.D.Disk.state s) (g.D.Disk.state t) (g.met.D.Disk.only_now s) other file len r apart step

pub returns-clause-sync : goal.returns-clause-sync
returns-clause-sync g c = λ s t file other r step. sync_spares (g.D.Disk.state s) (g.D.Disk.state t) (g.met.D.Disk.only_now s) other file r step

pub returns-clause-looks : goal.returns-clause-looks
returns-clause-looks g c = λ s t other run. looks_spare (g.D.Disk.state s) (g.D.Disk.state t) other run

pub returns-clause-run : goal.returns-clause-run
returns-clause-run g c = λ s t file other test apart run. touches_spare (g.D.Disk.state s) (g.D.Disk.state t) file other (λ old x. IsTrue (test old x)) apart run
