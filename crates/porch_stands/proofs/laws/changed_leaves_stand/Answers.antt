use Rattle.porch_stands.proofs.Changing.{leaf_changed}
use Rattle.porch_stands.proofs.laws.changed_leaves_stand.Goals as goal

pub returns : goal.returns
returns c = λ flat on w m s known h home leaf at ty l v z holds in_shape.
    leaf_changed flat on w m s known (c.all_are_measured.ensures on.layout flat.types h.fits.allowed.layout_is known.types_are) h home leaf at ty l v z holds in_shape
