use Rattle.std.proofs.Common.{List, [], ◌∷◌, ◌+◌, ◌∙◌, ap}
use Rattle.porch_objects.specs.Store as store
use Rattle.porch_objects.specs.Store.{Activation}
use Rattle.porch_live.specs.inside.Entries.{stacked, blocks_of}
use Rattle.porch_live.proofs.Stacked.{stacked_push}
use Rattle.porch_live.proofs.Kept.{call_made}
use Rattle.porch_live.proofs.store.Store.enter.Goals as goal

pub invariant_of-self-2 : goal.invariant_of-self-2
invariant_of-self-2 c =
    call_made _ _ _ _ _ c.new.result c.in_ok-push.ensures.pushed (ap (λ (e : Activation). e.number) c.new.ensures) c.self.invariant

pub returns-clause-entered : goal.returns-clause-entered
returns-clause-entered c =
    let s = c.self.inside in
    rw (← c.self.view_is)
    (ap (λ (calls : List Activation).
    let s : store.Store = record { globals = s.globals.items; calls = calls; blocks = blocks_of s.blocks.items; called = s.called + 1; allocated = s.allocated; checkpoints = s.checkpoints } in s)
    (ap (λ es. stacked es []) c.in_ok-push.ensures.pushed ∙ stacked_push s.calls.items [] c.new.result
    ∙ ap (λ (e : Activation). e ∷ stacked s.calls.items []) c.new.ensures))
