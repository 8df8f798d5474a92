use Rattle.std.proofs.Common.{◌≡◌, ◌≢◌, ◌⊎◌, inl, inr, ℕ, List, [], ◌∷◌, take, get_or, refl}
use Rattle.porch_edge.specs.Files.{file_of}
use Rattle.porch_edge.specs.Disk.{WhereTold}
use Rattle.porch_edge.specs.Told.{when_told, tells_on}
use Rattle.porch_edge.specs.Runs.{run_sync, run_touches}
use Rattle.porch_gate.specs.Gates.{OldOrClosed}
use Rattle.porch_gate.proofs.Bytes.{first_is, closing}
use Rattle.porch_gate.proofs.Moments.{first_read, read_and_write}
use Rattle.porch_gate.proofs.calls.close.Goals as goal
use Rattle.porch_gate.proofs.calls.close.Goals.{else-count-eq1-via-then-count-eq1+else-first-gate, else-count-eq1-via-else-count-eq1}

pub returns-in_err-write_at-clause-moments : goal.returns-in_err-write_at-clause-moments
returns-in_err-write_at-clause-moments g c =
    let Q = OldOrClosed c.args.gate in
    let s0 = g.D.Disk.state c.args.disk.now in
    let s1 = g.D.Disk.state c.read.new.self in
    let s2 = g.D.Disk.state c.write_at.new.self in
    let F : List ℕ → Type 0 = λ old. (old ≡ []) ⊎ (take 1 old ≡ c.args.gate.letter ∷ []) in
    let shown : (c.in_ok-count.count ≢ 1) ⊎ (get_or c.read.new.buf 0 0 ≡ c.args.gate.letter) = elim c.else-count-eq1.branch [
      | else-count-eq1-via-then-count-eq1+else-first-gate w ↦ inr w.if-first-gate.false
      | else-count-eq1-via-else-count-eq1 w ↦ inl w.if-count-eq1.false
    ] in
    let facts : WhereTold s0 (λ fs. F (file_of c.args.file fs)) = when_told s0.files _ (λ fs is.
    let t = tells_on s0.files s1.files _ fs is c.in_ok-count.ensures.step in
    first_is (file_of c.args.file fs) c.read.new.buf c.in_ok-count.count c.args.gate.letter t.2.1.0 t.2.1.1 shown) in
    let wrote = read_and_write s0 c.args.file c.requires (g.met.D.Disk.only_now c.args.disk.now) Q F facts (λ old f. inl refl) s2 0 (0 ∷ []) c.write_at.result Q (λ old x m. m)
    s1 0 (0 ∷ []) c.read.new.buf c.read.result (λ now old y f w. closing c.args.gate now old y f w) c.read.ensures.step c.write_at.ensures.step in
    run_touches s0 s2 c.args.file Q Q (λ old x m. m) wrote

pub returns-clause-moments : goal.returns-clause-moments
returns-clause-moments g c =
    let Q = OldOrClosed c.args.gate in
    let s0 = g.D.Disk.state c.args.disk.now in
    let s1 = g.D.Disk.state c.read.new.self in
    let s2 = g.D.Disk.state c.write_at.new.self in
    let F : List ℕ → Type 0 = λ old. (old ≡ []) ⊎ (take 1 old ≡ c.args.gate.letter ∷ []) in
    let shown : (c.in_ok-count.count ≢ 1) ⊎ (get_or c.read.new.buf 0 0 ≡ c.args.gate.letter) = elim c.else-count-eq1.branch [
      | else-count-eq1-via-then-count-eq1+else-first-gate w ↦ inr w.if-first-gate.false
      | else-count-eq1-via-else-count-eq1 w ↦ inl w.if-count-eq1.false
    ] in
    let facts : WhereTold s0 (λ fs. F (file_of c.args.file fs)) = when_told s0.files _ (λ fs is.
    let t = tells_on s0.files s1.files _ fs is c.in_ok-count.ensures.step in
    first_is (file_of c.args.file fs) c.read.new.buf c.in_ok-count.count c.args.gate.letter t.2.1.0 t.2.1.1 shown) in
    let wrote = read_and_write s0 c.args.file c.requires (g.met.D.Disk.only_now c.args.disk.now) Q F facts (λ old f. inl refl) s2 0 (0 ∷ []) c.write_at.result Q (λ old x m. m)
    s1 0 (0 ∷ []) c.read.new.buf c.read.result (λ now old y f w. closing c.args.gate now old y f w) c.read.ensures.step c.write_at.ensures.step in
    let s3 = g.D.Disk.state c.sync.new.self in
    let synced = run_sync s0 s2 s3 c.args.file c.sync.result Q Q (λ old x m. m) wrote c.sync.ensures.step in
    run_touches s0 s3 c.args.file Q Q (λ old x m. m) synced

pub returns-then-first-gate-clause-moments : goal.returns-then-first-gate-clause-moments
returns-then-first-gate-clause-moments g c =
    let Q = OldOrClosed c.args.gate in
    let s0 = g.D.Disk.state c.args.disk.now in
    let s1 = g.D.Disk.state c.read.new.self in
    let read = first_read s0 c.args.file c.requires (g.met.D.Disk.only_now c.args.disk.now) Q (λ _. Unit {0}) (when_told s0.files _ (λ fs is. tt)) (λ old any. inl refl) s1 0 (0 ∷ []) c.read.new.buf c.read.result
    c.read.ensures.step in
    run_touches s0 s1 c.args.file (λ old x. Unit {0} × (x ≡ old)) Q (λ old x same. inl same.1) read

pub returns-in_err-count-clause-moments : goal.returns-in_err-count-clause-moments
returns-in_err-count-clause-moments g c =
    let Q = OldOrClosed c.args.gate in
    let s0 = g.D.Disk.state c.args.disk.now in
    let s1 = g.D.Disk.state c.read.new.self in
    let read = first_read s0 c.args.file c.requires (g.met.D.Disk.only_now c.args.disk.now) Q (λ _. Unit {0}) (when_told s0.files _ (λ fs is. tt)) (λ old any. inl refl) s1 0 (0 ∷ []) c.read.new.buf c.read.result
    c.read.ensures.step in
    run_touches s0 s1 c.args.file (λ old x. Unit {0} × (x ≡ old)) Q (λ old x same. inl same.1) read
