use Rattle.porch_walk.proofs.Judging.{judged_on}
use Rattle.porch_walk.proofs.along.judge.Goals as goal

pub returns-then-branch : goal.returns-then-branch
returns-then-branch c = λ s i st.
    judged_on c.args.text.now c.args.token c.args.rest.now i s c.args.stage.now c.take_word.new.stage c.word_at-word.result c.bytes_of.result.now c.is_outside.result
    st c.is_outside.ensures c.if-is_outside.false c.word_at-word.ensures c.bytes_of.ensures
    (rw c.if-branch.true at (c.in_ok-take_word.ensures s st))
