use Rattle.std.proofs.Common.{◌+◌, ◌-◌, ℕ, [], refl, length, take, drop, arith, length-take, length-drop}
use Rattle.porch_output.specs.Outputs.{text_of}
use Rattle.porch_output.proofs.Keeps.{starts, text_starts, text_joins, lasts}
use Rattle.porch_output.proofs.Passes.{next_piece}
use Rattle.porch_output.proofs.output.Output.put.Goals as goal

pub returns-in_err-taken-clause-since : goal.returns-in_err-taken-clause-since
returns-in_err-taken-clause-since g c = λ kept mark since.
    lasts (g.D.Disk.state c.args.disk.now) (g.D.Disk.state c.put_some.new.disk) kept kept mark (g.met.D.Disk.counts_now c.args.disk.now) (λ x begins. begins)
    (λ leaves. c.put_some.ensures.keeps c.args.disk.now kept (c.loop-taken.invariant.keeps kept leaves)) since

pub loop-taken-init : goal.loop-taken-init
loop-taken-init g c = record {
  within = omega arith;
  usable = c.requires.usable;
  ready = c.requires.ready;
  text = text_starts (g.D.Disk.state c.args.disk.now) (text_of c.args.self.now) [] refl;
  size = omega arith;
  keeps = λ kept leaves. starts (g.D.Disk.state c.args.disk.now) kept (g.met.D.Disk.only_now c.args.disk.now) leaves;
  later = omega arith;
}

pub loop-taken-preserved : goal.loop-taken-preserved
loop-taken-preserved g c =
    let taken = c.loop-taken.taken in
    let count = c.in_ok-taken.field-0 in
    let bytes = c.args.bytes.now in
    record {
      within = omega (arith, c.in_ok-taken.ensures.within, length-take {A = ℕ}, length-drop taken bytes);
      usable = c.in_ok-taken.ensures.usable;
      ready = c.in_ok-taken.ensures.ready;
      text =
          text_joins (g.D.Disk.state c.args.disk.now) (g.D.Disk.state c.loop-taken.disk) (g.D.Disk.state c.put_some.new.disk) (text_of c.args.self.now) (text_of c.loop-taken.self) (text_of c.put_some.new.self)
          (take taken bytes) (take count (take (length bytes - taken) (drop taken bytes))) (take (taken + count) bytes) (next_piece taken count bytes) c.loop-taken.invariant.text c.in_ok-taken.ensures.text;
      size = omega (arith, c.in_ok-taken.ensures.length, c.loop-taken.invariant.size);
      keeps = λ kept leaves. c.put_some.ensures.keeps c.args.disk.now kept (c.loop-taken.invariant.keeps kept leaves);
      later = omega (arith, c.put_some.ensures.cause.later, c.loop-taken.invariant.later);
    }

pub returns-clause-since : goal.returns-clause-since
returns-clause-since g c = λ kept mark since.
    lasts (g.D.Disk.state c.args.disk.now) (g.D.Disk.state c.loop-taken.disk) kept kept mark (g.met.D.Disk.counts_now c.args.disk.now) (λ x begins. begins) (c.loop-taken.invariant.keeps kept) since
