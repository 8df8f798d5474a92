use Rattle.std.proofs.Common.{◌∙◌, length}
use Rattle.porch_operations.specs.declared.operation.Operation.TheVariants as operation
use Rattle.porch_operations.specs.Operations.{work}
use Rattle.porch_stack.specs.Doing.{MayBeDone}
use Rattle.porch_stack.proofs.Leaving.{return_column, return_ints}
use Rattle.porch_stack.proofs.frames.leave_by_return.Goals as goal

pub returned_value-value-requires : goal.returned_value-value-requires
returned_value-value-requires c =
    let may : MayBeDone c.args.loaded.now c.args.spot.now c.args.memory.now (operation.Return c.args.source) =
    c.next_operations_may_be_done.ensures c.args.loaded.now c.args.spot.now c.args.memory.now (operation.Return c.args.source) c.requires.loaded c.requires.stage c.requires.stands c.requires.does in
    record { lies = may.holds }

pub leave-requires-clause-ints : goal.leave-requires-clause-ints
leave-requires-clause-ints c =
    return_ints c.args.loaded.now c.requires.loaded c.args.spot.now (length c.args.memory.now) c.requires.stage c.requires.stands c.returned_value-value.result c.args.source c.requires.does
    c.returned_value-value.ensures.passes

pub returns-clause-column : goal.returns-clause-column
returns-clause-column c =
    λ heap shown.
    return_column c.args.loaded.now c.requires.loaded c.args.spot.now (length c.args.memory.now) c.requires.stage c.requires.stands c.returned_value-value.result (work c.args.memory.now heap shown)
    c.args.source c.requires.does c.returned_value-value.ensures.value
    ∙ c.leave.ensures.column heap shown
