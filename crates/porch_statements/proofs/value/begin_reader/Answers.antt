use Rattle.porch_statements.proofs.value.begin_reader.Goals as goal

pub returns-then-single : goal.returns-then-single
returns-then-single c = rw c.if-single.true c.begin_single.ensures.begun

pub returns-else-single : goal.returns-else-single
returns-else-single c = rw c.if-single.false c.begin_whole.ensures.begun
