use Rattle.porch_ucf.proofs.WordsInside.{words_inside}
use Rattle.porch_ucf.proofs.leaves.words_lie_inside.Goals as goal

pub returns : goal.returns
returns c = words_inside c.extents_add_up.ensures.parts c.elements_are_aligned.ensures.place c.places_rise.ensures c.ucf_is_a_layout.ensures c.ucf_leaves_are_packed.ensures
