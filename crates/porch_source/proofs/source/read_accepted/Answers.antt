use Rattle.std.proofs.Common.{◌∙◌}
use Rattle.porch_source.proofs.Answering.{unbuilt_for}
use Rattle.porch_source.proofs.source.read_accepted.Goals as goal

pub returns-in-Ok-clause-refused : goal.returns-in-Ok-clause-refused
returns-in-Ok-clause-refused c =
    unbuilt_for c.args.text.now c.as_slice.result.now c.args.tokens.now c.read_clean.result
    (c.as_slice.ensures.value ∙ c.in-Ok.ensures) c.requires c.read_clean.ensures.unbuilt
