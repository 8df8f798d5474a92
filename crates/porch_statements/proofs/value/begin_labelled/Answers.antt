use Rattle.std.proofs.Common.{ap, ◌∙◌}
use Rattle.porch_lex.specs.Words.{kind_word, spelled_token}
use Rattle.porch_unit.specs.Units.{value_step, reader_for}
use Rattle.porch_statements.specs.Shown.{items_of, frames_of, purpose_of}
use Rattle.porch_statements.proofs.Stacks.{when_ok}
use Rattle.porch_statements.proofs.value.begin_labelled.Goals as goal

pub returns : goal.returns
returns c =
    when_ok c.begin_value.result (λ x h text. h text ∙ ap (λ k. value_step c.args.begins (items_of text c.args.builder.now.items) (frames_of text c.args.builder.now.frames) (purpose_of text c.args.purpose) (reader_for k) (kind_word c.args.token.kind) (spelled_token text c.args.token)) (c.is_label-single.ensures text)) c.begin_value.ensures
