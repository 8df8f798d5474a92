use Rattle.std.proofs.Common.{◌||◌, if◌then◌else◌, ap, sym, ◌∙◌}
use Rattle.porch_lex.specs.Words.{kind_word, spelled_token}
use Rattle.porch_declarations.specs.Declarations.{is_static, step_at, at_start}
use Rattle.porch_unit.specs.Units.{declared_on, statement_step}
use Rattle.porch_statements.specs.Shown.{items_of, frames_of}
use Rattle.porch_blocks.proofs.Stacks.{when_ok}
use Rattle.porch_blocks.proofs.declared.read_first.Goals as goal

pub returns-then-declares : goal.returns-then-declares
returns-then-declares c = record { step = when_ok c.read_declaration.result (λ x h text. h text ∙ ap (λ b. if b then declared_on (items_of text c.args.builder.now.items) (frames_of text c.args.builder.now.frames) (step_at c.args.begins at_start (kind_word c.args.token.kind) (spelled_token text c.args.token)) else statement_step c.args.begins (items_of text c.args.builder.now.items) (frames_of text c.args.builder.now.frames) (kind_word c.args.token.kind) (spelled_token text c.args.token)) (sym c.if-declares.true ∙ c.declares.ensures ∙ ap (λ w. c.args.begins || is_static w) c.word_at.ensures)) c.read_declaration.ensures.step }

pub returns-else-declares : goal.returns-else-declares
returns-else-declares c = record { step = when_ok c.read_statement.result (λ x h text. h text ∙ ap (λ b. if b then declared_on (items_of text c.args.builder.now.items) (frames_of text c.args.builder.now.frames) (step_at c.args.begins at_start (kind_word c.args.token.kind) (spelled_token text c.args.token)) else statement_step c.args.begins (items_of text c.args.builder.now.items) (frames_of text c.args.builder.now.frames) (kind_word c.args.token.kind) (spelled_token text c.args.token)) (sym c.if-declares.false ∙ c.declares.ensures ∙ ap (λ w. c.args.begins || is_static w) c.word_at.ensures)) c.read_statement.ensures.step }
