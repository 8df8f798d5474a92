use Rattle.porch_store.proofs.Fronts.{read_whole}
use Rattle.porch_store.proofs.load.read_on.Goals as goal

pub returns-clause-read : goal.returns-clause-read
returns-clause-read g c = read_whole (g.D.Disk.state c.args.disk.now) (g.D.Disk.state c.read.new.self) c.args.file c.args.filled c.args.bytes.now c.read.new.buf c.read.result c.requires c.read.ensures.step
