use Rattle.porch_stands.proofs.Placed.{placed}
use Rattle.porch_stands.proofs.laws.a_state_is_stood_for.Goals as goal

pub returns : goal.returns
returns c = λ flat on w m s known h home object e.
    placed flat on w m s known (c.all_are_measured.ensures on.layout flat.types h.fits.allowed.layout_is known.types_are) h home object e
