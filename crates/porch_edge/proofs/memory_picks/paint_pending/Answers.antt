use Rattle.std.proofs.Common.{◌≡◌, ◌-◌, length, take, reverse, sym, ◌∙◌, ap, arith, List, ℕ}
use Rattle.std.proofs.lemmas.List.{take_all}
use Rattle.porch_edge.specs.declared.memory_calls.Call.{Call}
use Rattle.porch_edge.specs.Picks.{is_pending, painted}
use Rattle.porch_edge.proofs.Painted.{painted_none}
use Rattle.porch_edge.proofs.Picks.{reversed_more}
use Rattle.porch_edge.proofs.memory_picks.paint_pending.Goals as goal

pub loop-left-init : goal.loop-left-init
loop-left-init c = record {
  within = omega arith;
  same = ap (λ (l : List Call). painted (is_pending c.args.file (reverse l)) c.args.byte 0 c.args.bytes.now) (take_all (length c.args.calls.now) c.args.calls.now (omega arith));
}

pub returns-then-not-paint_one : goal.returns-then-not-paint_one
returns-then-not-paint_one c =
    let calls = c.args.calls.now in
    let i = c.loop-left.left - 1 in
    let more = reversed_more calls i c.loop-left.left c.index-calls-left.result c.index-calls-left.is (omega arith) (omega arith) in
    c.paint_one.ensures.done c.if-not-paint_one.true (reverse (take i calls)) ∙ ap (λ (l : List Call). painted (is_pending c.args.file l) c.args.byte 0 c.loop-left.bytes) (sym more) ∙ c.loop-left.invariant.same

pub loop-left-preserved : goal.loop-left-preserved
loop-left-preserved c =
    let calls = c.args.calls.now in
    let i = c.loop-left.left - 1 in
    let more = reversed_more calls i c.loop-left.left c.index-calls-left.result c.index-calls-left.is (omega arith) (omega arith) in
    record {
      within = omega (arith, c.loop-left.invariant.within);
      same = c.paint_one.ensures.more c.if-not-paint_one.false (reverse (take i calls)) ∙ ap (λ (l : List Call). painted (is_pending c.args.file l) c.args.byte 0 c.loop-left.bytes) (sym more) ∙ c.loop-left.invariant.same;
    }

pub returns : goal.returns
returns c =
    let none : c.loop-left.left ≡ 0 = omega arith in
    sym (painted_none c.args.byte 0 c.loop-left.bytes) ∙ ap (λ (n : ℕ). painted (is_pending c.args.file (reverse (take n c.args.calls.now))) c.args.byte 0 c.loop-left.bytes) (sym none) ∙ c.loop-left.invariant.same
