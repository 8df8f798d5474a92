use Rattle.porch_ucf.proofs.NumberPlaces.{noted}
use Rattle.porch_ucf.proofs.saved.number_places.Goals as goal

pub loop-at-preserved : goal.loop-at-preserved
loop-at-preserved c = λ k place e.
    let n = c.note.ensures k place e in
    noted c.args.commands.now c.loop-at.at k c.index-commands-at.result n.0 place c.loop-at-test.true c.index-commands-at.is (c.loop-at.invariant k n.0 n.1) n.2
