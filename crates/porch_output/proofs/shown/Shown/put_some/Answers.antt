use Rattle.std.proofs.Common.{take, drop, sym}
use Rattle.std.proofs.lemmas.List.{take-append-drop}
use Rattle.porch_output.specs.Shows.{waiting}
use Rattle.porch_output.proofs.Passes.{fails_longer, on_failure}
use Rattle.porch_output.proofs.shown.Shown.put_some.Goals as goal

pub returns-in_err-flush_all-clause-failed : goal.returns-in_err-flush_all-clause-failed
returns-in_err-flush_all-clause-failed g c =
    let count = c.take_front-count.result in
    let bytes = c.args.bytes.now in
    on_failure c.from_residual.result _
    (fails_longer (g.O.Sink.held c.args.out.now) (g.O.Sink.held c.flush_all.new.out) (waiting c.args.self.now) (take count bytes) (drop count bytes) bytes c.take_front-count.new.buffer.items
    c.take_front-count.ensures.items (sym (take-append-drop count bytes)) c.in_err-flush_all.ensures.failed)
