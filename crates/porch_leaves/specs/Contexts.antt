-- Where expressions stand.
use Rattle.porch_check.specs.Operands.{Context, plain, called, shown, as_size, as_allocation}
use Rattle.porch_leaves.specs.declared.context.Context as code_context
use Rattle.porch_leaves.specs.declared.context.Context.TheVariants as context

abbrev pub as_context : code_context.Context → Context
as_context context.Plain = plain
as_context context.Called = called
as_context context.Shown = shown
as_context context.AsSize = as_size
as_context context.AsAllocation = as_allocation
