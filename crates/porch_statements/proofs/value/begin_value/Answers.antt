use Rattle.std.proofs.Common.{ap, ◌∙◌}
use Rattle.porch_lex.specs.Words.{kind_word, spelled_token}
use Rattle.porch_unit.specs.Units.{value_step}
use Rattle.porch_statements.specs.Shown.{items_of, frames_of, purpose_of}
use Rattle.porch_statements.proofs.Stacks.{when_ok}
use Rattle.porch_statements.proofs.value.begin_value.Goals as goal

pub returns-in-Ok : goal.returns-in-Ok
returns-in-Ok c =
    when_ok c.read_value.result (λ x h text. h text ∙ ap (λ s. value_step c.args.begins (items_of text c.args.builder.now.items) (frames_of text c.args.builder.now.frames) (purpose_of text c.args.purpose) s (kind_word c.args.token.kind) (spelled_token text c.args.token)) (c.in-Ok.ensures text)) c.read_value.ensures.step
