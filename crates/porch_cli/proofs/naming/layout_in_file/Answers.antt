use Rattle.porch_cli.proofs.Fronts.{in_told_file}
use Rattle.porch_cli.proofs.naming.layout_in_file.Goals as goal

pub returns-in-Ok-clause-named : goal.returns-in-Ok-clause-named
returns-in-Ok-clause-named g c =
    let named = rw c.as_slice.ensures.value at c.layout_in_text.ensures.named in
    in_told_file (g.D.Disk.state c.args.disk.now).files c.in-Ok.text.items c.args.name.now c.layout_in_text.result c.in-Ok.ensures.bytes named

pub returns-in-Ok-clause-failed : goal.returns-in-Ok-clause-failed
returns-in-Ok-clause-failed g c = λ e. absurd (c.layout_in_text.ensures.memory e)
