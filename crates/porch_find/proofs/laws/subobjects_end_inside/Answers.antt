use Rattle.porch_find.proofs.Spotting.{ends_inside}
use Rattle.porch_find.proofs.laws.subobjects_end_inside.Goals as goal

pub returns : goal.returns
returns c = λ under types root count pointee leaf is are known sub. ends_inside under types root count pointee leaf (c.all_are_measured.ensures under types is are) known sub
