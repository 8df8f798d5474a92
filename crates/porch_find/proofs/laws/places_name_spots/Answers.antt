use Rattle.std.proofs.Common.{refl}
use Rattle.porch_find.proofs.Spotting.{spots_one}
use Rattle.porch_find.proofs.laws.places_name_spots.Goals as goal

pub returns-clause-begins : goal.returns-clause-begins
returns-clause-begins c = λ under types root count pointee leaf sub. record { is = sub; at = refl }

pub returns-clause-ends : goal.returns-clause-ends
returns-clause-ends c = λ under types root count pointee leaf is. record { is = is; at = refl }

pub returns-clause-only : goal.returns-clause-only
returns-clause-only c = λ under types root count byte pointee a b is are known. spots_one under types root count byte pointee a b (c.all_are_measured.ensures under types is are) known
