use Rattle.std.proofs.Common.{◌≡◌, length, arith}
use Rattle.porch_ucf.proofs.RunByRun.{none_at_all}
use Rattle.porch_ucf.proofs.leaves.check_elements.Goals as goal

pub returns-then-is_empty-clause-sound : goal.returns-then-is_empty-clause-sound
returns-then-is_empty-clause-sound c =
    let none : length c.args.runs.now ≡ 0 = grind (arith, c.if-is_empty.ensures, c.if-is_empty.true) in
    none_at_all c.args.sought c.args.metrics.now.types c.args.objects.now.items c.args.image.now c.args.object c.elements_repeat.ensures c.layout-layout.ensures.types c.requires.known c.args.runs.now c.requires.runs none
