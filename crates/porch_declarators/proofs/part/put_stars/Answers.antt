use Rattle.std.proofs.Common.{arith}
use Rattle.porch_declarators.proofs.MoreStars.{stars_more}
use Rattle.porch_declarators.proofs.part.put_stars.Goals as goal

pub loop-star-preserved : goal.loop-star-preserved
loop-star-preserved c =
    stars_more c.args.parts.now.items c.loop-star.parts.items c.push.new.self.items c.args.at c.args.stars.now c.loop-star._star-index
    (omega arith) c.loop-star.invariant c.in_ok-push.ensures.items
