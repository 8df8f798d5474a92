use Rattle.std.proofs.Common.{sym, ◌∙◌, refl}
use Rattle.porch_live.proofs.comparisons.same_place.Goals as goal

pub returns-then-same_home : goal.returns-then-same_home
returns-then-same_home c = λ types pointee. let h = sym (c.same_home.ensures types pointee) ∙ c.if-same_home.true in rw h refl

pub returns-else-same_home : goal.returns-else-same_home
returns-else-same_home c = λ types pointee.
    let h = sym (c.same_home.ensures types pointee) ∙ c.if-same_home.false in rw h c.if-same_home.false
