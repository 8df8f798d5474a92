use Rattle.std.proofs.Common.{arith}
use Rattle.porch_lower.proofs.Counts.{product_alone, product_row, sum_alone, sum_row}
use Rattle.porch_lower.proofs.temporaries.+temporaries.Goals as goal

pub temps-returns-in-empty : goal.temps-returns-in-empty
temps-returns-in-empty t c =
    let short = rw c.as_slice.ensures at c.in-empty.len_below in
    let all = product_alone c.args.expr.now c.in-Product.first c.in-Product.more c.in-Product.is short in
    let one = rw c.get-in-empty.ensures at c.temps-in-empty.ensures in
    rw all one

pub temps-returns-in-len1-up : goal.temps-returns-in-len1-up
temps-returns-in-len1-up t c =
    let long = rw c.as_slice.ensures at c.in-len1-up.len_at_least in
    let all = product_row c.args.expr.now c.in-Product.first c.in-Product.more c.in-Product.is long in
    let one = rw c.get-in-len1-up.ensures at c.temps-in-len1-up.ensures in
    let more = rw c.as_slice-in-len1-up.ensures at c.factors_temps.ensures in
    omega (arith, all, one, more, c.max.ensures, c.saturating_add.ensures)

pub temps-returns-in-empty-as_slice : goal.temps-returns-in-empty-as_slice
temps-returns-in-empty-as_slice t c =
    let short = rw c.as_slice-in-Sum.ensures at c.in-empty-as_slice.len_below in
    let all = sum_alone c.args.expr.now c.in-Sum.first c.in-Sum.more c.in-Sum.is short in
    let one = rw c.get-in-empty-as_slice.ensures at c.temps-in-empty-as_slice.ensures in
    rw all one

pub temps-returns-in-len1-up-as_slice : goal.temps-returns-in-len1-up-as_slice
temps-returns-in-len1-up-as_slice t c =
    let long = rw c.as_slice-in-Sum.ensures at c.in-len1-up-as_slice.len_at_least in
    let all = sum_row c.args.expr.now c.in-Sum.first c.in-Sum.more c.in-Sum.is long in
    let one = rw c.get-in-len1-up-as_slice.ensures at c.temps-in-len1-up-as_slice.ensures in
    let more = rw c.as_slice-in-len1-up-as_slice.ensures at c.terms_temps.ensures in
    omega (arith, all, one, more, c.max-in-len1-up-as_slice.ensures, c.saturating_add-in-len1-up-as_slice.ensures)
