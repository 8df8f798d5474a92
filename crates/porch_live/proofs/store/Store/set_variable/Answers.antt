use Rattle.std.proofs.Common.{List, [], ◌∙◌, sym, ap}
use Rattle.porch_objects.specs.Store.{Activation, with_calls, innermost_in}
use Rattle.porch_live.specs.inside.Edits.{first_becomes}
use Rattle.porch_live.specs.inside.Entries.{stacked, store_in}
use Rattle.porch_live.proofs.Stacked.{stacked_change}
use Rattle.porch_live.proofs.Kept.{call_changed}
use Rattle.porch_live.proofs.store.Store.set_variable.Goals as goal

pub invariant_of-self : goal.invariant_of-self
invariant_of-self c =
    let s = c.self.inside in
    call_changed (first_becomes c.args.value) (innermost_in (stacked s.calls.items []) s.called) c.args.variable _ _ _ _ _ (c.set_last.ensures s.called) c.self.invariant

pub returns : goal.returns
returns c =
    let s = c.self.inside in
    let whole = store_in s.globals.items s.calls.items s.blocks.items s.called s.allocated s.checkpoints in
    let innermost = innermost_in (stacked s.calls.items []) s.called in
    rw (← c.self.view_is)
    (ap (λ (calls : List Activation). with_calls whole calls)
    (ap (λ es. stacked es []) (c.set_last.ensures s.called)
    ∙ sym (stacked_change (first_becomes c.args.value) innermost c.args.variable 0 s.calls.items c.self.invariant.calls_rising)))
