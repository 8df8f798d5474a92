use Rattle.std.proofs.Common.{◌≡◌, ◌↔◌, IsTrue, ℕ, ◌-◌, ◌≤◌, List, [], ◌∷◌, ◌++◌, length, take, drop, min, replicate, refl, ◌∙◌, ap, subst, arith}
use Rattle.porch_edge.specs.Files.{Files, file_of}
use Rattle.porch_edge.specs.Told.{when_told, told_at, tells_on}
use Rattle.porch_gate.specs.Gates as gates
use Rattle.porch_store.proofs.Numbers.{number_read}
use Rattle.porch_edge.specs.Runs.{read_looks, looks_join}
use Rattle.porch_store.proofs.number.open_number.Goals as goal

pub returns-in_err-read-clause-looks : goal.returns-in_err-read-clause-looks
returns-in_err-read-clause-looks g c =
    let s0 = g.D.Disk.state c.args.disk.now in
    let s1 = g.D.Disk.state c.is_open.new.disk in
    let s2 = g.D.Disk.state c.read.new.self in
    looks_join s0 s1 s2 c.is_open.ensures.looks (read_looks s1 s2 c.args.file (g.met.D.Disk.only_now c.is_open.new.disk) 16 (replicate 8 0) c.read.new.buf c.read.result c.read.ensures.step)

pub returns-clause-answer : goal.returns-clause-answer
returns-clause-answer g c =
    let s0 = g.D.Disk.state c.args.disk.now in
    let s1 = g.D.Disk.state c.is_open.new.disk in
    let s2 = g.D.Disk.state c.read.new.self in
    when_told s0.files _ (λ fs is.
    let a = tells_on s0.files s1.files _ fs is c.is_open.ensures.looks in
    let b = tells_on s1.files s2.files _ a.0 a.1 c.in_ok-read.ensures.step in
    let bytes = file_of c.args.file fs in
    let same : file_of c.args.file a.0 ≡ bytes = ap (λ (f : Files). file_of c.args.file f) a.2.same in
    let answer = told_at s0.files fs (λ f. IsTrue c.in_ok-is_open.field-0 ↔ gates.IsOpen c.checkpoint.result (file_of c.args.file f)) is c.in_ok-is_open.ensures.answer in
    let opened : gates.IsOpen c.checkpoint.result bytes = answer.0 c.if-not-branch.false in
    let long : 128 ≤ length bytes = omega (arith, opened.long, c.checkpoint.ensures.least) in (
      record { long = long; letter = subst (λ (l : ℕ). take 1 bytes ≡ l ∷ []) c.checkpoint.ensures.letter opened.letter },
      c.read_u64.ensures
          ∙ number_read bytes (replicate 8 0) c.read.new.buf c.in_ok-read.field-0 long refl
          (b.2.1.0 ∙ ap (λ (l : List ℕ). min 8 (length l - 16)) same)
          (b.2.1.1 ∙ ap (λ (l : List ℕ). take c.in_ok-read.field-0 (drop 16 l) ++ drop c.in_ok-read.field-0 (replicate 8 0)) same),
    ))

pub returns-clause-looks : goal.returns-clause-looks
returns-clause-looks g c =
    let s0 = g.D.Disk.state c.args.disk.now in
    let s1 = g.D.Disk.state c.is_open.new.disk in
    let s2 = g.D.Disk.state c.read.new.self in
    looks_join s0 s1 s2 c.is_open.ensures.looks (read_looks s1 s2 c.args.file (g.met.D.Disk.only_now c.is_open.new.disk) 16 (replicate 8 0) c.read.new.buf c.read.result c.read.ensures.step)
