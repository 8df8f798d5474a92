use Rattle.std.proofs.Common.{◌++◌}
use Rattle.porch_metrics.proofs.Counted.{counted}
use Rattle.porch_metrics.proofs.Extended.{extents_kept}
use Rattle.porch_metrics.proofs.PlacesStay.{place_stays}
use Rattle.porch_metrics.proofs.laws.extents_stay.Goals as goal

pub returns-clause-extents : goal.returns-clause-extents
returns-clause-extents c = λ l types more n known. extents_kept l types more n known

pub returns-clause-places : goal.returns-clause-places
returns-clause-places c = λ l types more ty leaf are known.
    place_stays l types (types ++ more) ty leaf (counted types are c.leaves_add_up.ensures.together c.leaves_add_up.ensures.some) (c.earlier_types_stay.ensures types more are)
    (λ p below. extents_kept l types more p below) known
