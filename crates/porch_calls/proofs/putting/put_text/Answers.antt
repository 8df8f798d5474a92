use Rattle.porch_operands.specs.Views.{as_typed}
use Rattle.porch_check.specs.Operands.{operand}
use Rattle.porch_calls.proofs.Texts.{text_made, text_refused}
use Rattle.porch_calls.proofs.putting.put_text.Goals as goal

pub returns-in_ok-text_of-clause-made : goal.returns-in_ok-text_of-clause-made
returns-in_ok-text_of-clause-made c = λ s.
    text_made c.is_char_pointer.result c.args.at s (as_typed c.args.value) (operand (as_typed c.in_ok-text_of.field-0))
    (c.is_char_pointer.ensures s) c.if-is_char_pointer.true c.in_ok-text_of.ensures

pub returns-else-is_char_pointer-clause-refused : goal.returns-else-is_char_pointer-clause-refused
returns-else-is_char_pointer-clause-refused c = λ s.
    text_refused c.is_char_pointer.result c.args.at s (as_typed c.args.value) c.mismatch.result
    (c.is_char_pointer.ensures s) c.if-is_char_pointer.false c.mismatch.ensures
