-- The text is that of the parts.
use Rattle.std.proofs.Common.{◌++◌, ◌∙◌, ap}
use Rattle.porch_flat_text.specs.inside.Texts.{flat_text}
use Rattle.porch_flat_text.proofs.Parts.{text_from}
use Rattle.porch_flat_text.proofs.print.print_flat.Goals as goal

pub returns : goal.returns
returns c = text_from c.args.flat.now c.put_flat.new.out.items (c.in_ok-put_flat.ensures ∙ ap (λ s. s ++ flat_text c.args.flat.now) c.new-out.ensures.items)
