use Rattle.porch_parse.proofs.frame.build.Goals as goal

pub returns-in-Prefix : goal.returns-in-Prefix
returns-in-Prefix c = rw c.in-Prefix.is c.prefixed.ensures

pub returns-in-Colon : goal.returns-in-Colon
returns-in-Colon c = rw c.in-Colon.is c.conditional.ensures

pub returns-in-Assigning : goal.returns-in-Assigning
returns-in-Assigning c = rw c.in-Assigning.is c.assign.ensures

pub returns-in-Comma : goal.returns-in-Comma
returns-in-Comma c = rw c.in-Comma.is c.sequence.ensures

pub returns-in-Cast : goal.returns-in-Cast
returns-in-Cast c = rw c.in-Cast.is c.cast.ensures
