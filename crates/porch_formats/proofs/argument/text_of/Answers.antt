use Rattle.porch_typed.specs.Views.{print_of}
use Rattle.porch_operands.specs.Views.{as_typed}
use Rattle.porch_formats.proofs.Others.{text_made, text_refused}
use Rattle.porch_formats.proofs.argument.text_of.Goals as goal

pub returns-then-is_char_pointer-clause-made : goal.returns-then-is_char_pointer-clause-made
returns-then-is_char_pointer-clause-made c = λ s.
    text_made c.is_char_pointer.result c.args.at s (as_typed c.args.value) (print_of c.text_piece.result)
    (c.is_char_pointer.ensures s) c.if-is_char_pointer.true c.text_piece.ensures

pub returns-else-is_char_pointer-clause-refused : goal.returns-else-is_char_pointer-clause-refused
returns-else-is_char_pointer-clause-refused c = λ s.
    text_refused c.is_char_pointer.result c.args.at s (as_typed c.args.value) c.mismatch.result
    (c.is_char_pointer.ensures s) c.if-is_char_pointer.false c.mismatch.ensures
