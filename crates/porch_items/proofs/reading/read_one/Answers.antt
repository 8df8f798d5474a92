use Rattle.std.proofs.Common.{ap, ◌∙◌}
use Rattle.porch_lex.specs.Words.{kind_word, spelled_token}
use Rattle.porch_unit.specs.Units.{step_at}
use Rattle.porch_statements.specs.Shown.{state_of}
use Rattle.porch_items.proofs.Readings.{has_stepped}
use Rattle.porch_items.proofs.reading.read_one.Goals as goal

pub returns-in-Ok : goal.returns-in-Ok
returns-in-Ok c = λ names h.
    has_stepped c.args.types.now.keys c.learn.new.types.keys names (state_of c.args.text.now c.args.builder.now c.args.point) (state_of c.args.text.now c.read_token.new.builder c.in_ok-next.next) (spelled_token c.args.text.now c.args.token) h
    (c.in_ok-next.ensures.step c.args.text.now ∙ ap (λ b. step_at b (state_of c.args.text.now c.args.builder.now c.args.point) (kind_word c.args.token.kind) (spelled_token c.args.text.now c.args.token)) c.begins-begins.ensures)
    (c.in-Ok.ensures names h)
