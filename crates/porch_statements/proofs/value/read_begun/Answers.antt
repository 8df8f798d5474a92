use Rattle.std.proofs.Common.{if◌then◌else◌, ap, sym, ◌∙◌}
use Rattle.porch_tree.specs.Mirror.{absent}
use Rattle.porch_lex.specs.Words.{kind_word, spelled_token}
use Rattle.porch_unit.specs.Units.{is_ending, is_label, reader_for, given, value_step}
use Rattle.porch_statements.specs.Shown.{items_of, frames_of, purpose_of}
use Rattle.porch_statements.proofs.Stacks.{when_ok}
use Rattle.porch_statements.proofs.value.read_begun.Goals as goal

pub returns-then-is_ending : goal.returns-then-is_ending
returns-then-is_ending c = record { step = when_ok c.give.result (λ x h text. h text ∙ ap (λ b. if b then given (items_of text c.args.builder.now.items) (frames_of text c.args.builder.now.frames) (purpose_of text c.args.purpose) absent else value_step c.args.begins (items_of text c.args.builder.now.items) (frames_of text c.args.builder.now.frames) (purpose_of text c.args.purpose) (reader_for (is_label (purpose_of text c.args.purpose))) (kind_word c.args.token.kind) (spelled_token text c.args.token)) (sym c.if-is_ending.true ∙ c.is_ending.ensures ∙ ap is_ending c.word_at.ensures)) c.give.ensures.step }

pub returns-else-is_ending : goal.returns-else-is_ending
returns-else-is_ending c = record { step = when_ok c.begin_labelled.result (λ x h text. h text ∙ ap (λ b. if b then given (items_of text c.args.builder.now.items) (frames_of text c.args.builder.now.frames) (purpose_of text c.args.purpose) absent else value_step c.args.begins (items_of text c.args.builder.now.items) (frames_of text c.args.builder.now.frames) (purpose_of text c.args.purpose) (reader_for (is_label (purpose_of text c.args.purpose))) (kind_word c.args.token.kind) (spelled_token text c.args.token)) (sym c.if-is_ending.false ∙ c.is_ending.ensures ∙ ap is_ending c.word_at.ensures)) c.begin_labelled.ensures }
