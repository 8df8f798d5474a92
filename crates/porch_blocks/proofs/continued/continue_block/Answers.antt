use Rattle.std.proofs.Common.{ap, ◌∙◌}
use Rattle.porch_lex.specs.Words.{kind_word, spelled_token}
use Rattle.porch_unit.specs.Units.{statement_step}
use Rattle.porch_statements.specs.Shown.{items_of}
use Rattle.porch_blocks.proofs.Stacks.{when_ok}
use Rattle.porch_blocks.proofs.continued.continue_block.Goals as goal

pub returns : goal.returns
returns c =
    when_ok c.read_statement.result (λ x h text. h text ∙ ap (λ fs. statement_step c.args.begins (items_of text c.args.builder.now.items) fs (kind_word c.args.token.kind) (spelled_token text c.args.token)) (c.in_ok-add_in_block.ensures text)) c.read_statement.ensures.step
