use Rattle.porch_ucf.proofs.Stretches.{repeats}
use Rattle.porch_ucf.proofs.runs.elements_repeat.Goals as goal

pub returns : goal.returns
returns c = repeats c.leaf_types_go_by_parts.ensures.again c.places_add_up.ensures.subobjects c.elements_are_aligned.ensures.place c.ucf_is_a_layout.ensures
