use Rattle.std.proofs.Common.{◌≡◌, subst, sym, ◌∙◌}
use Rattle.porch_types.specs.Rows.{IsSubobject}
use Rattle.porch_metrics.specs.Places.{place_of}
use Rattle.porch_find.specs.inside.Forms.{layout_in}
use Rattle.porch_find.proofs.Rising.{is_one}
use Rattle.porch_find.proofs.Spotting.{is_within}
use Rattle.porch_find.proofs.search.begin_at.Goals as goal

pub returns-in-None-clause-none : goal.returns-in-None-clause-none
returns-in-None-clause-none c = λ leaf is.
    c.in-None.ensures.none leaf
    (is_within (layout_in c.args.form c.args.metrics.now.layout) c.args.metrics.now.types c.args.root c.args.count c.args.pointee leaf c.forms_are_measured.ensures c.requires.root is.is) (sym is.at)

pub returns-in-None-row_of-clause-none : goal.returns-in-None-row_of-clause-none
returns-in-None-row_of-clause-none c = λ leaf is.
    let types = c.args.metrics.now.types in
    let p = place_of (layout_in c.args.form c.args.metrics.now.layout) types c.args.root in
    let same : leaf ≡ c.in-Some.leaf = is_one p leaf c.in-Some.leaf (λ a b. c.forms_are_measured.ensures.rise c.args.root a b c.requires.root) (sym is.at ∙ sym c.in-Some.ensures.place) in
    let here : IsSubobject types c.args.root c.args.count c.in-Some.leaf c.args.pointee = subst (λ i. IsSubobject types c.args.root c.args.count i c.args.pointee) same is.is in
    c.in-None-row_of.ensures.none (subst (λ ts. IsSubobject ts c.args.root c.args.count c.in-Some.leaf c.args.pointee) (sym c.types.ensures) here)
