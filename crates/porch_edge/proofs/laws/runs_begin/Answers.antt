use Rattle.std.proofs.Common.{ℕ, List, ◌≡◌, IsTrue, sym, subst}
use Rattle.porch_edge.specs.Runs.{run_begins_settled, run_touches}
use Rattle.porch_edge.specs.Told.{when_told}
use Rattle.porch_edge.proofs.laws.runs_begin.Goals as goal

pub returns : goal.returns
returns g c = λ s file test start settled.
    let here = g.D.Disk.state s in
    let Q : List ℕ → List ℕ → Type 0 = λ old x. IsTrue (test old x) in
    let begun = run_begins_settled here file (λ _. Unit {0}) Q (λ old some. start old) (g.met.D.Disk.only_now s) settled (when_told here.files _ (λ fs is. tt)) in
    run_touches here here file (λ old x. Unit {0} × (x ≡ old)) Q (λ old x m. subst (λ y. Q old y) (sym m.1) (start old)) begun
