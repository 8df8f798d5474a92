use Rattle.std.proofs.Common.{◌≡◌, ◌+◌, ◌++◌, [], ◌∷◌, map, sym, ap, ◌∙◌, arith}
use Rattle.std.specs.List.{range_with_len}
use Rattle.std.proofs.lemmas.Grind.{common_steps}
use Rattle.porch_ucf.specs.Reading.{block_in}
use Rattle.porch_ucf.proofs.ReadInOrder.{read_more}
use Rattle.porch_ucf.proofs.rows.read_blocks.Goals as goal

pub loop-i-preserved : goal.loop-i-preserved
loop-i-preserved c =
    let f = block_in c.args.text.now in
    let before = map f (range_with_len c.args.frames c.loop-i.i) in
    let pushed : c.push.new.self.items ≡ c.loop-i.rows.items ++ c.read_block.result ∷ [] = grind (arith, common_steps) in
    let here : c.args.frames + c.loop-i.i ≡ c.args.frames + c.loop-i.i = omega arith in
    let row : c.read_block.result ≡ f (c.args.frames + c.loop-i.i) = c.read_block.ensures ∙ ap f (sym here) in
    pushed ∙ ap (λ l. l ++ c.read_block.result ∷ []) c.loop-i.invariant ∙ ap (λ row. before ++ row ∷ []) row
    ∙ sym (read_more f c.args.frames c.loop-i.i)
