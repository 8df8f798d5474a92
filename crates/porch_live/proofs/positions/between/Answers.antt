use Rattle.std.proofs.Common.{refl, sym, ◌∙◌}
use Rattle.porch_live.proofs.positions.between.Goals as goal

pub returns-then-same_place : goal.returns-then-same_place
returns-then-same_place c = λ types pointee.
    let same = sym (c.same_place.ensures types pointee) ∙ c.if-same_place.true in
    rw (c.in-Some.is, c.in-Some-q.is, same) c.distance.ensures

pub returns-else-same_place : goal.returns-else-same_place
returns-else-same_place c = λ types pointee.
    let same = sym (c.same_place.ensures types pointee) ∙ c.if-same_place.false in
    rw (c.in-Some.is, c.in-Some-q.is, same) refl
