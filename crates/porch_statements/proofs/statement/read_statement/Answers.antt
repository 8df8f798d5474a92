use Rattle.std.proofs.Common.{ap, ◌∙◌}
use Rattle.porch_lex.specs.Words.{kind_word, spelled_token}
use Rattle.porch_unit.specs.Units.{lead_of, lead_step}
use Rattle.porch_statements.specs.Shown.{items_of, frames_of}
use Rattle.porch_statements.proofs.Stacks.{when_ok}
use Rattle.porch_statements.proofs.statement.read_statement.Goals as goal

pub returns : goal.returns
returns c = record { step = when_ok c.read_lead.result (λ x h text. h text ∙ ap (λ l. lead_step c.args.begins (items_of text c.args.builder.now.items) (frames_of text c.args.builder.now.frames) l (kind_word c.args.token.kind) (spelled_token text c.args.token)) (c.lead_at.ensures ∙ ap lead_of c.word_at.ensures)) c.read_lead.ensures }
