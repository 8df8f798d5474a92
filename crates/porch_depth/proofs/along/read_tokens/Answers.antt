use Rattle.std.proofs.lemmas.List.{drop_more}
use Rattle.porch_depth.proofs.Readings.{has_read_on, has_read_all}
use Rattle.porch_depth.proofs.along.read_tokens.Goals as goal

pub loop-i-preserved : goal.loop-i-preserved
loop-i-preserved c =
    has_read_on c.args.text.now c.args.tokens.now c.loop-i.i _ _ c.loop-i.reader c.read_token.new.reader _ c.loop-i.invariant
    (drop_more c.args.tokens.now c.loop-i.i _ c.loop-i-test.true) c.in_ok-number_of.ensures c.if-branch.true
    (c.in_ok-read_token.ensures c.loop-i.invariant.stage c.loop-i.invariant.at)

pub returns-else-branch : goal.returns-else-branch
returns-else-branch c =
    has_read_all c.args.text.now c.args.tokens.now c.loop-i.i _ _ c.loop-i.reader c.read_token.new.reader _ c.loop-i.invariant
    (drop_more c.args.tokens.now c.loop-i.i _ c.loop-i-test.true) c.if-branch.false
    (c.in_ok-read_token.ensures c.loop-i.invariant.stage c.loop-i.invariant.at)
