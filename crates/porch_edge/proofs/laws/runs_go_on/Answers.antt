use Rattle.std.proofs.Common.{ℕ, List, IsTrue}
use Rattle.porch_edge.specs.Runs.{run_len, run_read, run_write, run_cut, run_sync, run_touches, touches_run}
use Rattle.porch_edge.specs.Told.{when_told}
use Rattle.porch_edge.proofs.laws.runs_go_on.Goals as goal

pub returns-clause-len : goal.returns-clause-len
returns-clause-len g c = λ s t u file test r run step.
    let s0 = g.D.Disk.state s in
    let s1 = g.D.Disk.state t in
    let s2 = g.D.Disk.state u in
    let Q : List ℕ → List ℕ → Type 0 = λ old x. IsTrue (test old x) in
    run_touches s0 s2 file Q Q (λ old x q. q) (run_len s0 s1 s2 file r Q Q (λ old x q. q) (touches_run s0 s1 file Q run) step)

pub returns-clause-read : goal.returns-clause-read
returns-clause-read g c = λ s t u file test at before after r run step.
    let s0 = g.D.Disk.state s in
    let s1 = g.D.Disk.state t in
    let s2 = g.D.Disk.state u in
    let Q : List ℕ → List ℕ → Type 0 = λ old x. IsTrue (test old x) in
    run_touches s0 s2 file Q Q (λ old x q. q) (run_read s0 s1 s2 file at before after r Q Q (λ old x q. q) (touches_run s0 s1 file Q run) step)

pub returns-clause-write : goal.returns-clause-write
returns-clause-write g c = λ s t u file test at bytes r keeps run step.
    let s0 = g.D.Disk.state s in
    let s1 = g.D.Disk.state t in
    let s2 = g.D.Disk.state u in
    let Q : List ℕ → List ℕ → Type 0 = λ old x. IsTrue (test old x) in
    let wrote = run_write s0 s1 s2 file at bytes r (λ _. Unit {0}) Q Q Q (when_told s1.files _ (λ fs is. tt)) (λ old now x y fact q torn. keeps now old x y q torn) (λ old x q. q) (touches_run s0 s1 file Q run) step in
    run_touches s0 s2 file Q Q (λ old x q. q) wrote

pub returns-clause-cut : goal.returns-clause-cut
returns-clause-cut g c = λ s t u file test len r shortened marred run step.
    let s0 = g.D.Disk.state s in
    let s1 = g.D.Disk.state t in
    let s2 = g.D.Disk.state u in
    let Q : List ℕ → List ℕ → Type 0 = λ old x. IsTrue (test old x) in
    run_touches s0 s2 file Q Q (λ old x q. q) (run_cut s0 s1 s2 file len r Q Q Q shortened marred (λ old x q. q) (touches_run s0 s1 file Q run) step)

pub returns-clause-sync : goal.returns-clause-sync
returns-clause-sync g c = λ s t u file test r run step.
    let s0 = g.D.Disk.state s in
    let s1 = g.D.Disk.state t in
    let s2 = g.D.Disk.state u in
    let Q : List ℕ → List ℕ → Type 0 = λ old x. IsTrue (test old x) in
    run_touches s0 s2 file Q Q (λ old x q. q) (run_sync s0 s1 s2 file r Q Q (λ old x q. q) (touches_run s0 s1 file Q run) step)
