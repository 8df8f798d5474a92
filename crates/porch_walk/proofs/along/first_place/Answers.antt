use Rattle.std.proofs.Common.{refl, ◌+◌}
use Rattle.std.proofs.lemmas.List.{drop_more, take_rest}
use Rattle.porch_walk.proofs.Judging.{walked_first, walked_on, walked_to}
use Rattle.porch_walk.proofs.along.first_place.Goals as goal

pub loop-i-init : goal.loop-i-init
loop-i-init c = walked_first c.args.text.now c.args.tokens.now _ c.new.ensures.empty refl refl c.new-2.ensures.items

pub returns-in-Some : goal.returns-in-Some
returns-in-Some c = walked_to c.args.text.now c.args.tokens.now c.loop-i.i _ _ c.loop-i.stage c.judge.new.stage c.in_ok-judge.field-0 c.in-Some.fault c.loop-i.invariant
    (drop_more c.args.tokens.now c.loop-i.i _ c.loop-i-test.true) (take_rest c.args.tokens.now (c.loop-i.i + 1)) c.in-Some.is
    (c.in_ok-judge.ensures c.loop-i.invariant.stage c.loop-i.i c.loop-i.invariant.stands)

pub loop-i-preserved : goal.loop-i-preserved
loop-i-preserved c = walked_on c.args.text.now c.args.tokens.now c.loop-i.i _ _ c.loop-i.stage c.judge.new.stage c.in_ok-judge.field-0 c.loop-i.invariant
    (drop_more c.args.tokens.now c.loop-i.i _ c.loop-i-test.true) (take_rest c.args.tokens.now (c.loop-i.i + 1)) c.in-None.is
    (c.in_ok-judge.ensures c.loop-i.invariant.stage c.loop-i.i c.loop-i.invariant.stands)
