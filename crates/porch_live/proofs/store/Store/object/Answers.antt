use Rattle.std.proofs.Common.{List, sym, ap, ◌∙◌, slice_get}
use Rattle.porch_objects.specs.Store.{Object, variables_in}
use Rattle.porch_live.proofs.Stacked.{stacked_variables}
use Rattle.porch_live.proofs.Blocks.{block_of_entry}
use Rattle.porch_live.proofs.store.Store.object.Goals as goal

pub returns-in-Call : goal.returns-in-Call
returns-in-Call c =
    rw (← c.self.view_is, c.in-Call.is) (
    c.object_in.ensures
    ∙ ap (λ es. slice_get (variables_in es c.in-Call.call) c.in-Call.variable) c.deref-in-Call.ensures.value
    ∙ ap (λ (os : List Object). slice_get os c.in-Call.variable) (sym (stacked_variables 0 c.self.inside.calls.items c.in-Call.call c.self.invariant.calls_rising)))

pub returns-in-Block : goal.returns-in-Block
returns-in-Block c =
    rw (← c.self.view_is, c.in-Block.is) (
    c.object_in-in-Block.ensures
    ∙ ap (λ es. slice_get (variables_in es c.in-Block.block) 0) c.deref-in-Block.ensures.value
    ∙ sym (block_of_entry 0 c.self.inside.blocks.items c.in-Block.block c.self.invariant.blocks_rising))
