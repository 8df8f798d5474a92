use Rattle.std.proofs.Common.{◌+◌, ◌-◌, ℕ, length, take, drop, arith, length-take, length-drop}
use Rattle.porch_output.specs.Shows.{waiting}
use Rattle.porch_output.proofs.Passes.{next_piece, all_pieces, passes_joins, passes_fails, on_failure}
use Rattle.porch_output.proofs.shown.Shown.put.Goals as goal

pub returns-in_err-taken-clause-failed : goal.returns-in_err-taken-clause-failed
returns-in_err-taken-clause-failed g c =
    let taken = c.loop-taken.taken in
    let bytes = c.args.bytes.now in
    on_failure c.from_residual.result _
    (passes_fails (g.O.Sink.held c.args.out.now) (g.O.Sink.held c.loop-taken.out) (g.O.Sink.held c.put_some.new.out) (waiting c.args.self.now) (take taken bytes) (take (length bytes - taken) (drop taken bytes)) bytes
    (waiting c.loop-taken.self) (all_pieces taken bytes) c.loop-taken.invariant.passed c.in_err-taken.ensures.failed)

pub loop-taken-preserved : goal.loop-taken-preserved
loop-taken-preserved g c =
    let taken = c.loop-taken.taken in
    let count = c.in_ok-taken.field-0 in
    let bytes = c.args.bytes.now in
    record {
      within = omega (arith, c.in_ok-taken.ensures.within, length-take {A = ℕ}, length-drop taken bytes);
      usable = c.in_ok-taken.ensures.usable;
      passed =
          passes_joins (g.O.Sink.held c.args.out.now) (g.O.Sink.held c.loop-taken.out) (g.O.Sink.held c.put_some.new.out) (waiting c.args.self.now) (take taken bytes) (take count (take (length bytes - taken) (drop taken bytes)))
          (take (taken + count) bytes) (waiting c.loop-taken.self) (waiting c.put_some.new.self) (next_piece taken count bytes) c.loop-taken.invariant.passed c.in_ok-taken.ensures.passed;
      later = omega (arith, c.put_some.ensures.cause.later, c.loop-taken.invariant.later);
    }
