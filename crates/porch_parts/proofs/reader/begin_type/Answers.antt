use Rattle.std.proofs.Common.{ap, ◌∙◌}
use Rattle.porch_parts.proofs.Voids.{when_ok}
use Rattle.porch_parts.proofs.Outermost.{on_top}
use Rattle.porch_lex.specs.Words.{kind_word, spelled_token}
use Rattle.porch_parse.specs.Shown.{frames_of}
use Rattle.porch_parts.specs.Signs.{sign_of}
use Rattle.porch_parts.specs.Types.{base_step}
use Rattle.porch_parts.specs.Parts.{placed_on}
use Rattle.porch_parts.specs.Shown.{parts_of}
use Rattle.porch_parts.proofs.reader.begin_type.Goals as goal

pub returns : goal.returns
returns c = when_ok c.read_in_type.result (λ t h text. h text
    ∙ ap (λ ps. placed_on c.args.begins (frames_of text c.args.reader.now.frames) (base_step ps (sign_of (kind_word c.args.token.kind)) (spelled_token text c.args.token)) (kind_word c.args.token.kind) (spelled_token text c.args.token))
    (ap (parts_of text) c.in_ok-push.ensures.ok ∙ on_top text c.args.reader.now.parts _)) c.read_in_type.ensures
