use Rattle.std.proofs.Common.{ap, sym, ◌∙◌}
use Rattle.porch_lex.specs.Words.{kind_word, spelled_token}
use Rattle.porch_tree.specs.Views.{stmt_of}
use Rattle.porch_unit.specs.Units.{continued}
use Rattle.porch_statements.specs.Shown.{items_of}
use Rattle.porch_blocks.proofs.Stacks.{when_ok}
use Rattle.porch_blocks.proofs.continued.continue_at.Goals as goal

pub returns-in-None : goal.returns-in-None
returns-in-None c = λ text. ap (λ fs. continued c.args.begins (items_of text c.args.builder.now.items) fs (stmt_of text c.args.statement) (kind_word c.args.token.kind) (spelled_token text c.args.token)) (sym (c.in-None.ensures.popped text))

pub returns-in-Some : goal.returns-in-Some
returns-in-Some c =
    when_ok c.continue_in.result (λ x h text. h text ∙ ap (λ fs. continued c.args.begins (items_of text c.args.builder.now.items) fs (stmt_of text c.args.statement) (kind_word c.args.token.kind) (spelled_token text c.args.token)) (sym (c.in-Some.ensures.popped text))) c.continue_in.ensures
