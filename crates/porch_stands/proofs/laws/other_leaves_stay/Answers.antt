use Rattle.porch_stands.proofs.Written.{others_stay}
use Rattle.porch_stands.proofs.laws.other_leaves_stay.Goals as goal

pub returns : goal.returns
returns c = λ flat on w m s known h home leaf at ty l other k there type o two z.
    others_stay flat on w m s known (c.all_are_measured.ensures on.layout flat.types h.fits.allowed.layout_is known.types_are) h home leaf at ty l other k there type o z two
