use Rattle.porch_source.proofs.Answering.{faulty_for}
use Rattle.porch_source.proofs.source.read_tokens.Goals as goal

pub returns-in-Ok-Some-clause-refused : goal.returns-in-Ok-Some-clause-refused
returns-in-Ok-Some-clause-refused c =
    faulty_for c.args.text.now c.args.tokens.now c.refusal_of.result c.in-Ok-Some.faulty c.in-Ok-Some.field-0 c.requires
    c.in-Ok-Some.field-0-is c.in-Ok-Some.ensures.first c.refusal_of.ensures.place c.refusal_of.ensures.rule
