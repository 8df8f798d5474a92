use Rattle.std.proofs.Common.{◌∙◌, ap, refl}
use Rattle.std.proofs.lemmas.Result.{on_ok_weaker}
use Rattle.porch_edge.specs.Files.{Files, file_of}
use Rattle.porch_edge.proofs.memory_disk.MemDiskDisk.sync.Goals as goal

pub returns-clause-step : goal.returns-clause-step
returns-clause-step c = (
  c.noted.ensures.stays,
  on_ok_weaker c.noted.result (λ durable. λ f left. durable f left ∙ ap (λ (x : Files). file_of c.args.file x) c.noted.ensures.stays.same) (c.noted.ensures.durable refl),
  c.noted.ensures.ticks,
)

pub returns-clause-cause : goal.returns-clause-cause
returns-clause-cause c = c.noted.ensures.cause
