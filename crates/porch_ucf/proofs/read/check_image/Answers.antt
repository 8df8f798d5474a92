use Rattle.std.proofs.Common.{◌≡◌, length, None, ap, ◌∙◌, subst}
use Rattle.std.proofs.lemmas.Result.{IfOk-weaker, MatchResult-weaker}
use Rattle.porch_metrics.specs.Places.{Measures}
use Rattle.porch_ucf.specs.declared.header.Header.{Header}
use Rattle.porch_ucf.specs.RowFlaws.{frame_flaw, block_flaw}
use Rattle.porch_ucf.specs.inside.Checked.{IsDataFlaw, IsDataSound}
use Rattle.porch_ucf.proofs.Flawless.{blocks_known, whole_flaw, whole_sound}
use Rattle.porch_ucf.proofs.read.check_image.Goals as goal

pub check_data-requires-clause-known : goal.check_data-requires-clause-known
check_data-requires-clause-known c =
    blocks_known c.args.program.now.types c.header-header.result.now.frames c.args.image.now.blocks (rw c.blocks-2.ensures at c.in_ok-check_blocks.ensures.sound)

pub returns-clause-sound : goal.returns-clause-sound
returns-clause-sound c =
    let program = c.args.program.now in
    let image = c.args.image.now in
    let frames : frame_flaw program image.frames ≡ None = rw c.frames.ensures at c.in_ok-check_frames.ensures.sound in
    let blocks_at : block_flaw program.types c.header-header.result.now.frames image.blocks ≡ None = rw c.blocks-2.ensures at c.in_ok-check_blocks.ensures.sound in
    let count : c.header-header.result.now.frames ≡ length image.frames = ap (λ (h : Header). h.frames) c.header-header.ensures.header ∙ c.header-header.ensures.numbers.frames in
    let blocks : block_flaw program.types (length image.frames) image.blocks ≡ None = subst (λ n. block_flaw program.types n image.blocks ≡ None) count blocks_at in
    let long = ap (λ (m : Measures). m.layout.long) c.in_ok-metrics.ensures in
    IfOk-weaker c.check_data.result _ _ (λ x sound. whole_sound program image frames blocks c.args.layout.now.long (subst (λ n. IsDataSound n program image) long sound)) c.check_data.ensures.sound

pub returns-clause-flaw : goal.returns-clause-flaw
returns-clause-flaw c =
    let program = c.args.program.now in
    let image = c.args.image.now in
    let frames : frame_flaw program image.frames ≡ None = rw c.frames.ensures at c.in_ok-check_frames.ensures.sound in
    let blocks_at : block_flaw program.types c.header-header.result.now.frames image.blocks ≡ None = rw c.blocks-2.ensures at c.in_ok-check_blocks.ensures.sound in
    let count : c.header-header.result.now.frames ≡ length image.frames = ap (λ (h : Header). h.frames) c.header-header.ensures.header ∙ c.header-header.ensures.numbers.frames in
    let blocks : block_flaw program.types (length image.frames) image.blocks ≡ None = subst (λ n. block_flaw program.types n image.blocks ≡ None) count blocks_at in
    let long = ap (λ (m : Measures). m.layout.long) c.in_ok-metrics.ensures in
    MatchResult-weaker c.check_data.result c.check_data.ensures.flaw (λ x u. u)
    (λ fault flaw. whole_flaw program image frames blocks c.args.layout.now.long fault (subst (λ n. IsDataFlaw n program image fault) long flaw))
