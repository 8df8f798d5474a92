use Rattle.std.proofs.Common.{List, [], ◌∙◌, sym, ap}
use Rattle.porch_objects.specs.Store.{Activation, HeapObject, with_calls, with_blocks}
use Rattle.porch_live.specs.inside.Edits.{done}
use Rattle.porch_live.specs.inside.Entries.{stacked, blocks_of, store_in}
use Rattle.porch_live.proofs.Stacked.{stacked_change}
use Rattle.porch_live.proofs.Blocks.{block_change}
use Rattle.porch_live.proofs.Kept.{call_changed, block_changed}
use Rattle.porch_live.proofs.store.Store.edit.Goals as goal

pub invariant_of-self-in-Call : goal.invariant_of-self-in-Call
invariant_of-self-in-Call c =
    call_changed (done c.args.edit.now c.edit_in.result) c.in-Call.call c.in-Call.variable _ _ _ _ _ c.edit_in.ensures c.self.invariant

pub invariant_of-self-in-Block : goal.invariant_of-self-in-Block
invariant_of-self-in-Block c =
    block_changed (done c.args.edit.now c.edit_in-in-Block.result) c.in-Block.block 0 _ _ _ _ _ c.edit_in-in-Block.ensures c.self.invariant

pub returns-in-Call : goal.returns-in-Call
returns-in-Call c =
    let s = c.self.inside in
    let whole = store_in s.globals.items s.calls.items s.blocks.items s.called s.allocated s.checkpoints in
    rw (← c.self.view_is, c.in-Call.is)
    (ap (λ (calls : List Activation). with_calls whole calls)
    (ap (λ es. stacked es []) c.edit_in.ensures
    ∙ sym (stacked_change (done c.args.edit.now c.edit_in.result) c.in-Call.call c.in-Call.variable 0 s.calls.items c.self.invariant.calls_rising)))

pub returns-in-Block : goal.returns-in-Block
returns-in-Block c =
    let s = c.self.inside in
    let whole = store_in s.globals.items s.calls.items s.blocks.items s.called s.allocated s.checkpoints in
    rw (← c.self.view_is, c.in-Block.is)
    (ap (λ (blocks : List HeapObject). with_blocks whole blocks)
    (ap (λ es. blocks_of es) c.edit_in-in-Block.ensures
    ∙ sym (block_change (done c.args.edit.now c.edit_in-in-Block.result) c.in-Block.block 0 s.blocks.items c.self.invariant.blocks_rising)))
