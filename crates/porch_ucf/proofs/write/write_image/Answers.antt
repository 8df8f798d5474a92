use Rattle.std.proofs.Common.{◌≡◌, ap, ◌∙◌, append_assoc}
use Rattle.porch_ucf.specs.Files.{sealed, unsealed}
use Rattle.porch_ucf.proofs.write.write_image.Goals as goal

pub returns-clause-file : goal.returns-clause-file
returns-clause-file c =
    let before : c.put.new.into.items ≡ unsealed c.args.image.now = simp (c.put.ensures.items, c.put_blocks.ensures.items, c.put_frames.ensures.items, c.put_header.ensures.items, c.requires.empty, c.bytes.ensures, c.blocks-2.ensures, c.frames.ensures, c.header.ensures.header, append_assoc) in
    c.seal.ensures.items ∙ ap sealed before
