use Rattle.std.proofs.Common.{◌≡◌, ◌∙◌, inl, inr, ⊎_elim}
use Rattle.porch_edge.specs.Calls.{index_of}
use Rattle.porch_edge.proofs.Picks.{on_file, painted_over, painted_more}
use Rattle.porch_edge.proofs.memory_picks.paint_one.Goals as goal

pub returns-in-Synced-clause-done : goal.returns-in-Synced-clause-done
returns-in-Synced-clause-done c = λ _ log.
    let same : index_of c.args.call.now.file ≡ index_of c.args.file = cc in
    painted_over c.args.file c.args.call.now c.args.byte c.args.bytes.now log
    (⊎_elim (λ is. inl (on_file c.args.file c.args.call.now same ∙ is)) (λ is. inr (on_file c.args.file c.args.call.now same ∙ is)) c.in-Synced.is)

pub returns-in-Write-clause-more : goal.returns-in-Write-clause-more
returns-in-Write-clause-more c = λ _ log.
    let same : index_of c.args.call.now.file ≡ index_of c.args.file = cc in
    painted_more c.args.file c.args.call.now c.args.byte c.in-Write.from c.in-Write.to c.args.bytes.now c.paint.new.bytes log (on_file c.args.file c.args.call.now same ∙ c.in-Write.is) c.paint.ensures
