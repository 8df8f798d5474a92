use Rattle.std.proofs.Common.{◌≡◌, ℕ, ◌+◌, ◌-◌, ◌≤◌, List, length, drop, ap, sym, ◌∙◌, length-drop, arith}
use Rattle.std.proofs.lemmas.List.{length-map, length-take-le}
use Rattle.std.proofs.lemmas.List.FromFn.{length-range_with_len}
use Rattle.std.specs.List.{range_with_len}
use Rattle.porch_ucf.specs.declared.image.FrameRow.{FrameRow}
use Rattle.porch_ucf.specs.declared.image.BlockRow.{BlockRow}
use Rattle.porch_ucf.specs.Images.{rows_size}
use Rattle.porch_ucf.specs.Reading.{frame_in, block_in, bytes_in}
use Rattle.porch_ucf.proofs.read.read_unchecked.Goals as goal

bytes_length : (text : List ℕ) (rows body : ℕ) → rows ≤ body → 128 + body ≤ length text → length (bytes_in text rows body) ≡ body - rows
bytes_length text rows body le whole = length-take-le (body - rows) (drop (96 + rows) text) (omega (arith, le, whole, length-drop (96 + rows) text))

pub new-requires : goal.new-requires
new-requires c =
    let h = c.args.header in
    let text = c.args.text.now in
    let frames : length c.in_ok-frames.frames.items ≡ h.frames =
    ap (λ (l : List FrameRow). length l) c.in_ok-frames.ensures ∙ length-map (range_with_len 0 h.frames) (frame_in text) ∙ length-range_with_len 0 h.frames in
    let blocks : length c.in_ok-blocks.blocks.items ≡ h.blocks =
    ap (λ (l : List BlockRow). length l) c.in_ok-blocks.ensures ∙ length-map (range_with_len h.frames h.blocks) (block_in text) ∙ length-range_with_len h.frames h.blocks in
    let bytes : length c.in_ok-bytes.bytes.items ≡ h.body - rows_size h.frames h.blocks =
    ap (λ (l : List ℕ). length l) (c.in_ok-bytes.ensures.items ∙ c.bytes_in.ensures) ∙ bytes_length text (rows_size h.frames h.blocks) h.body c.requires.rows c.requires.whole in
    record { frames = sym frames; blocks = sym blocks; body = omega (arith, frames, blocks, bytes, c.requires.rows) }
