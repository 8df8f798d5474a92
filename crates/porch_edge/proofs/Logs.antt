-- A kept call, under other names for what it did.
use Rattle.std.proofs.Common.{◌≡◌, ℕ, List, [], ◌∷◌, ◌++◌, ◌∙◌, ap}
use Rattle.porch_edge.specs.declared.disk.FileName.{FileName}
use Rattle.porch_edge.specs.declared.memory_calls.Change.{Change}
use Rattle.porch_edge.specs.declared.memory_calls.Call.{Call}
use Rattle.porch_edge.specs.Files.{Files, with_file}
use Rattle.porch_edge.specs.inside.Kept.{Logged}

pub relogged : {fs gs : Files} {old new : List Call} {file : FileName} {b bytes : List ℕ} {s change : Change} {moment : ℕ} → b ≡ bytes → s ≡ change → Logged fs gs old new file b s moment → Logged fs gs old new file bytes change moment
relogged {fs = fs} {old = old} {file = file} {moment = moment} same_bytes same_change l = record {
  before = l.before;
  had = l.had;
  has = l.has ∙ ap (λ (x : List ℕ). with_file file fs x) same_bytes;
  kept = l.kept ∙ ap (λ (x : Change). let call : Call = record { file = file; change = x; before = l.before; moment = moment } in old ++ call ∷ []) same_change;
}
