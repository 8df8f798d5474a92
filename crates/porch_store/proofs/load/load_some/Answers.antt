use Rattle.std.proofs.Common.{◌≡◌, ℕ, ◌+◌, ◌≤◌, List, length, take, sym, ◌∙◌, ap, subst, arith}
use Rattle.porch_edge.specs.Disk.{WhereTold}
use Rattle.porch_edge.specs.Files.{Files, file_of}
use Rattle.porch_edge.specs.Told.{when_told, told_at, tells_on}
use Rattle.porch_store.proofs.Fronts.{loaded}
use Rattle.std.proofs.lemmas.Grind.{common_steps}
use Rattle.porch_edge.specs.Runs.{looks_join}
use Rattle.porch_store.proofs.load.load_some.Goals as goal

pub returns-in_err-read-clause-looks : goal.returns-in_err-read-clause-looks
returns-in_err-read-clause-looks g c = looks_join (g.D.Disk.state c.args.disk.now) (g.D.Disk.state c.loop-filled.disk) (g.D.Disk.state c.read_on.new.disk) c.loop-filled.invariant.looks c.read_on.ensures.looks

pub loop-filled-preserved : goal.loop-filled-preserved
loop-filled-preserved g c = record {
  within = grind (arith, common_steps);
  sized = grind (arith, common_steps);
  done = when_told (g.D.Disk.state c.args.disk.now).files _ (λ fs is.
      let s0 = g.D.Disk.state c.args.disk.now in
      let s1 = g.D.Disk.state c.loop-filled.disk in
      let old = c.loop-filled.bytes.items in
      let file = file_of c.args.file fs in
      let a = tells_on s0.files s1.files _ fs is c.loop-filled.invariant.looks in
      let there : file_of c.args.file a.0 ≡ file = ap (λ (f : Files). file_of c.args.file f) a.2.same in
      let count_is : c.args.count ≤ length file = told_at s0.files fs (λ f. c.args.count ≤ length (file_of c.args.file f)) is c.requires in
      let long : length old ≤ length (file_of c.args.file a.0) = omega (arith, c.loop-filled.invariant.sized, count_is, ap length there) in
      let front : take c.loop-filled.filled old ≡ take c.loop-filled.filled (file_of c.args.file a.0) = told_at s0.files fs (λ f. take c.loop-filled.filled old ≡ take c.loop-filled.filled (file_of c.args.file f)) is c.loop-filled.invariant.done ∙ ap (λ (l : List ℕ). take c.loop-filled.filled l) (sym there) in
      let R : List ℕ → Type 0 = λ slice. WhereTold s1 (λ f. length slice ≤ length (file_of c.args.file f) → take c.loop-filled.filled slice ≡ take c.loop-filled.filled (file_of c.args.file f) → c.read_on.new.bytes ≡ take (length slice) (file_of c.args.file f)) in
      let A : List ℕ → Type 0 = λ slice. WhereTold s1 (λ f. length slice ≤ length (file_of c.args.file f) → c.loop-filled.filled + c.in_ok-read.read ≡ length slice) in
      let slice : c.deref_mut.result.now ≡ old = c.deref_mut.ensures.value in
      let read_is = subst R slice c.in_ok-read.ensures.read in
      let all_is = subst A slice c.in_ok-read.ensures.all in
      let new_is = told_at s1.files a.0 (λ f. length old ≤ length (file_of c.args.file f) → take c.loop-filled.filled old ≡ take c.loop-filled.filled (file_of c.args.file f) → c.read_on.new.bytes ≡ take (length old) (file_of c.args.file f)) a.1 read_is long front in
      let all = told_at s1.files a.0 (λ f. length old ≤ length (file_of c.args.file f) → c.loop-filled.filled + c.in_ok-read.read ≡ length old) a.1 all_is long in
      let len_is : c.loop-filled.bytes.len ≡ length old = grind (arith, common_steps) in
      let same : length c.read_on.new.bytes ≡ length old = grind (arith, common_steps) in
      loaded (c.loop-filled.filled + c.in_ok-read.read) c.loop-filled.bytes.len old c.read_on.new.bytes file all len_is same (new_is ∙ ap (λ (l : List ℕ). take (length old) l) there));
  looks = looks_join (g.D.Disk.state c.args.disk.now) (g.D.Disk.state c.loop-filled.disk) (g.D.Disk.state c.read_on.new.disk) c.loop-filled.invariant.looks c.read_on.ensures.looks;
  later = omega (arith, c.loop-filled.invariant.later, c.read_on.ensures.cause.later);
}
