use Rattle.std.proofs.Common.{◌<◌, ◌^◌, length, arith, rules}
use Rattle.porch_lower.proofs.Expressions.{product_alone, sum_alone, product_row, sum_row, comparison, factor_done, term_done, factors_left, terms_left}
use denote.Param.Weighed.{at_most}
use Rattle.porch_lower.proofs.expression.+expression.Goals as goal

pub into-returns-in-empty : goal.into-returns-in-empty
into-returns-in-empty t c =
    let short = rw c.as_slice.ensures at c.in-empty.len_below in
    let done = rw c.get-in-empty.ensures at c.into-in-empty.ensures in
    rw (product_alone c.args.expr.now c.in-Product.first c.in-Product.more c.args.to c.args.from c.in-Product.is short) done

pub into-returns-in-empty-as_slice : goal.into-returns-in-empty-as_slice
into-returns-in-empty-as_slice t c =
    let short = rw c.as_slice-in-Sum.ensures at c.in-empty-as_slice.len_below in
    let done = rw c.get-in-empty-as_slice.ensures at c.into-in-empty-as_slice.ensures in
    rw (sum_alone c.args.expr.now c.in-Sum.first c.in-Sum.more c.args.to c.args.from c.in-Sum.is short) done

pub into-returns-in_ok-left-in-len1-up : goal.into-returns-in_ok-left-in-len1-up
into-returns-in_ok-left-in-len1-up t c =
    let long = rw c.as_slice.ensures at c.in-len1-up.len_at_least in
    let second = rw c.as_slice.ensures at c.second-item.is in
    let code = rw c.get-in-len1-up.ensures at c.in_ok-left-in-len1-up.ensures.code in
    let operand = rw c.get-in-len1-up.ensures at c.in_ok-left-in-len1-up.ensures.operand in
    let done = rw c.as_slice-in-len1-up.ensures at c.factors.ensures in
    product_row c.factors.result c.factors.new.commands c.left.new.commands c.args.commands.now c.args.expr.now c.in-Product.first c.second-item.result c.in-Product.more c.atom.result c.in_ok-left-in-len1-up.left c.args.to c.args.from c.in-Product.is long second c.atom.ensures code operand done

pub into-returns-in_ok-left-in-len1-up-as_slice : goal.into-returns-in_ok-left-in-len1-up-as_slice
into-returns-in_ok-left-in-len1-up-as_slice t c =
    let long = rw c.as_slice-in-Sum.ensures at c.in-len1-up-as_slice.len_at_least in
    let second = rw c.as_slice-in-Sum.ensures at c.index-second-0.is in
    let code = rw c.get-in-len1-up-as_slice.ensures at c.in_ok-left-in-len1-up-as_slice.ensures.code in
    let operand = rw c.get-in-len1-up-as_slice.ensures at c.in_ok-left-in-len1-up-as_slice.ensures.operand in
    let done = rw c.as_slice-in-len1-up-as_slice.ensures at c.terms.ensures in
    let right = rw (← c.index-second-0.is) at c.atom-in-len1-up-as_slice.ensures in
    sum_row c.terms.result c.terms.new.commands c.left-in-len1-up-as_slice.new.commands c.args.commands.now c.args.expr.now c.in-Sum.first c.index-second-0.result c.in-Sum.more c.atom-in-len1-up-as_slice.result c.in_ok-left-in-len1-up-as_slice.left c.args.to c.args.from c.in-Sum.is long second right code operand done

pub into-returns-in_ok-right-in-Less : goal.into-returns-in_ok-right-in-Less
into-returns-in_ok-right-in-Less t c =
    let right = rw c.get-in-Less-2.ensures at c.atom-in-Less.ensures in
    let first = rw c.get-in-Less.ensures at c.in_ok-left-in-Less.ensures.code in
    let x = rw c.get-in-Less.ensures at c.in_ok-left-in-Less.ensures.operand in
    let second = rw c.get-in-Less-3.ensures at c.in_ok-right-in-Less.ensures.code in
    let y = rw c.get-in-Less-3.ensures at c.in_ok-right-in-Less.ensures.operand in
    comparison c.push-in-Less.result c.push-in-Less.new.self c.held.new.commands c.left-in-Less.new.commands c.args.commands.now c.args.expr.now c.in-Less.a c.in-Less.b c.atom-in-Less.result c.in_ok-left-in-Less.left c.in_ok-right-in-Less.right c.args.to c.args.from c.in-Less.is right first x second y c.push-in-Less.ensures.ok

pub factors-loop-index-preserved : goal.factors-loop-index-preserved
factors-loop-index-preserved t c =
    let here : c.loop-index.index < length c.args.factors.now = omega arith in
    record {
      code = factor_done _ c.loop-index.commands c.held.new.commands c.push.new.self c.loop-index.left c.in_ok-right.right c.factor_place-place.result c.args.to c.args.from c.loop-index.index c.args.factors.now c.index-factors-index.result c.loop-index.invariant.code here c.index-factors-index.is c.in_ok-right.ensures.code c.in_ok-right.ensures.operand c.factor_place-place.ensures c.in_ok-push.ensures.ok;
      few = (factors_left (2 ^ 31) c.args.from c.loop-index.index c.args.factors.now c.index-factors-index.result c.loop-index.invariant.few here c.index-factors-index.is).1;
    }

pub terms-loop-index-preserved : goal.terms-loop-index-preserved
terms-loop-index-preserved t c =
    let here : c.loop-index.index < length c.args.terms.now = omega arith in
    let after = rw c.sum_command.ensures at c.in_ok-push.ensures.ok in
    record {
      code = term_done _ c.loop-index.commands c.held.new.commands c.push.new.self c.loop-index.left c.in_ok-right.right c.term_place-place.result c.args.to c.args.from c.loop-index.index c.args.terms.now c.index-terms-index.result c.loop-index.invariant.code here c.index-terms-index.is c.in_ok-right.ensures.code c.in_ok-right.ensures.operand c.term_place-place.ensures after;
      few = (terms_left (2 ^ 31) c.args.from c.loop-index.index c.args.terms.now c.index-terms-index.result c.loop-index.invariant.few here c.index-terms-index.is).1;
    }

pub terms-held-requires : goal.terms-held-requires
terms-held-requires t c =
    let here : c.loop-index.index < length c.args.terms.now = omega arith in
    let few = (terms_left (2 ^ 31) c.args.from c.loop-index.index c.args.terms.now c.index-terms-index.result c.loop-index.invariant.few here c.index-terms-index.is).0 in
    (search (rules, at_most), few)
