use Rattle.std.proofs.Common.{ap, sym, ◌∙◌}
use Rattle.porch_lex.specs.Words.{kind_word, spelled_token}
use Rattle.porch_tree.specs.Views.{stmt_of}
use Rattle.porch_unit.specs.Units.{Closed, is_else, ended_all, continued}
use Rattle.porch_statements.specs.Shown.{items_of, frames_of}
use Rattle.porch_blocks.proofs.Stacks.{when_ok}
use Rattle.porch_blocks.proofs.continued.read_ended.Goals as goal

pub returns : goal.returns
returns c = record {
  step =
      when_ok c.continue_at.result (λ x h text. h text
      ∙ ap (λ (z : Closed). continued c.args.begins (items_of text c.args.builder.now.items) z.frames z.value (kind_word c.args.token.kind) (spelled_token text c.args.token)) (sym (c.in_ok-ended.ensures text))
      ∙ ap (λ o. continued c.args.begins (items_of text c.args.builder.now.items) (ended_all o (frames_of text c.args.builder.now.frames) (stmt_of text c.args.statement)).frames (ended_all o (frames_of text c.args.builder.now.frames) (stmt_of text c.args.statement)).value (kind_word c.args.token.kind) (spelled_token text c.args.token)) (c.is_else-before_else.ensures ∙ ap is_else c.word_at.ensures)) c.continue_at.ensures;
}
