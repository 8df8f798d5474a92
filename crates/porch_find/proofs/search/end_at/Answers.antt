use Rattle.std.proofs.Common.{◌≡◌, ◌-◌, subst, sym, ◌∙◌, arith}
use Rattle.porch_metrics.specs.Places.{place_of}
use Rattle.porch_find.specs.Spots.{IsRowEnd}
use Rattle.porch_find.specs.inside.Forms.{layout_in}
use Rattle.porch_find.proofs.Rising.{is_one}
use Rattle.porch_find.proofs.Spotting.{is_within, not_so}
use Rattle.porch_find.proofs.search.end_at.Goals as goal

pub returns-in-None-clause-none : goal.returns-in-None-clause-none
returns-in-None-clause-none c = λ leaf is.
    let l = layout_in c.args.form c.args.metrics.now.layout in
    let types = c.args.metrics.now.types in
    let at : place_of l types c.args.root leaf ≡ c.args.byte - c.size_in-size.result = omega (arith, is.at, c.size_in-size.ensures) in
    c.in-None.ensures.none leaf (is_within l types c.args.root c.args.count c.args.pointee leaf c.forms_are_measured.ensures c.requires.root (is.is.row, is.is.is)) at

pub returns-else-ends_row-clause-none : goal.returns-else-ends_row-clause-none
returns-else-ends_row-clause-none c = λ leaf is.
    let l = layout_in c.args.form c.args.metrics.now.layout in
    let types = c.args.metrics.now.types in
    let p = place_of l types c.args.root in
    let at : p leaf ≡ c.args.byte - c.size_in-size.result = omega (arith, is.at, c.size_in-size.ensures) in
    let same : leaf ≡ c.in-Some.leaf = is_one p leaf c.in-Some.leaf (λ a b. c.forms_are_measured.ensures.rise c.args.root a b c.requires.root) (at ∙ sym c.in-Some.ensures.place) in
    not_so c.ends_row.result (IsRowEnd types c.args.root c.args.count c.args.pointee c.in-Some.leaf) c.ends_row.ensures c.if-ends_row.false
    (subst (IsRowEnd types c.args.root c.args.count c.args.pointee) same is.is)
