use Rattle.porch_stands.proofs.Written.{written}
use Rattle.porch_stands.proofs.laws.written_leaves_are_read.Goals as goal

pub returns : goal.returns
returns c = λ flat on w m s known h home leaf at ty l z fits.
    written flat on w m s known (c.all_are_measured.ensures on.layout flat.types h.fits.allowed.layout_is known.types_are) h home leaf at ty l z fits
