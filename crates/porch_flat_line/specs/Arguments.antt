-- The arguments that code has in hand, as the text sees them.
use Rattle.porch_flat_line.specs.declared.put.Argument.{Argument as HeldArgument}
use Rattle.porch_flat_line.specs.declared.put.Argument.TheVariants as held
use Rattle.porch_flat_line.specs.Text.{Argument, number, nowhere, void, operand}

abbrev pub argument_of : HeldArgument → Argument
argument_of (held.Number n) = number n
argument_of (held.Operand o) = operand o
argument_of held.Nowhere = nowhere
argument_of held.Void = void
