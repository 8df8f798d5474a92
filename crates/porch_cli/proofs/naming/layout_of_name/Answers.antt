use Rattle.porch_cli.proofs.Looks.{looks_at_nothing}
use Rattle.porch_cli.proofs.naming.layout_of_name.Goals as goal

pub returns-in-Some-clause-looks : goal.returns-in-Some-clause-looks
returns-in-Some-clause-looks g c = looks_at_nothing (g.D.Disk.state c.args.disk.now) (g.met.D.Disk.only_now c.args.disk.now)
