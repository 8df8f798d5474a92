use Rattle.std.proofs.Common.{◌≡◌, ◌/◌, ◌%◌, ap, sym, ◌∙◌, arith}
use Rattle.porch_types.specs.Leaves.{leaves_of}
use Rattle.porch_metrics.specs.Extents.{extent_of}
use Rattle.porch_find.specs.inside.Forms.{layout_in}
use Rattle.porch_find.proofs.Elements.{lies, holds}
use Rattle.porch_find.proofs.leaf.leaf_at.Goals as goal

pub returns-then-element-count-clause-none : goal.returns-then-element-count-clause-none
returns-then-element-count-clause-none c = λ leaf within at.
    let under = layout_in c.args.form c.args.metrics.now.layout in
    let types = c.args.metrics.now.types in
    let h = holds under types c.args.root c.args.count c.args.byte leaf c.forms_are_measured.ensures c.requires within at in
    let same : c.args.byte / c.size_in-size.result ≡ c.args.byte / (extent_of under types c.args.root).size = ap (λ x. c.args.byte / x) c.size_in-size.ensures in
    omega (arith, h.element, same, c.if-element-count.true)

pub overflow_mul-result : goal.overflow_mul-result
overflow_mul-result c =
    let types = c.args.metrics.now.types in
    let leaves : c.leaves.result ≡ leaves_of types c.args.root = c.leaves.ensures.value ∙ ap (λ ts. leaves_of ts c.args.root) c.types.ensures in
    let s = lies (layout_in c.args.form c.args.metrics.now.layout) types c.args.root c.args.count c.args.byte c.in-Some.leaf c.size_in-size.result c.leaves.result
    c.forms_are_measured.ensures c.requires c.size_in-size.ensures leaves c.if-element-count.false c.in-Some.ensures.some c.in-Some.ensures.place in
    omega (arith, s.few, c.ranges.byte)

pub overflow_add-result : goal.overflow_add-result
overflow_add-result c =
    let types = c.args.metrics.now.types in
    let leaves : c.leaves.result ≡ leaves_of types c.args.root = c.leaves.ensures.value ∙ ap (λ ts. leaves_of ts c.args.root) c.types.ensures in
    let s = lies (layout_in c.args.form c.args.metrics.now.layout) types c.args.root c.args.count c.args.byte c.in-Some.leaf c.size_in-size.result c.leaves.result
    c.forms_are_measured.ensures c.requires c.size_in-size.ensures leaves c.if-element-count.false c.in-Some.ensures.some c.in-Some.ensures.place in
    omega (arith, s.few, c.ranges.byte)

pub returns-in-Some-clause-some : goal.returns-in-Some-clause-some
returns-in-Some-clause-some c =
    let types = c.args.metrics.now.types in
    let leaves : c.leaves.result ≡ leaves_of types c.args.root = c.leaves.ensures.value ∙ ap (λ ts. leaves_of ts c.args.root) c.types.ensures in
    let s = lies (layout_in c.args.form c.args.metrics.now.layout) types c.args.root c.args.count c.args.byte c.in-Some.leaf c.size_in-size.result c.leaves.result
    c.forms_are_measured.ensures c.requires c.size_in-size.ensures leaves c.if-element-count.false c.in-Some.ensures.some c.in-Some.ensures.place in
    s.within

pub returns-in-Some-clause-place : goal.returns-in-Some-clause-place
returns-in-Some-clause-place c =
    let types = c.args.metrics.now.types in
    let leaves : c.leaves.result ≡ leaves_of types c.args.root = c.leaves.ensures.value ∙ ap (λ ts. leaves_of ts c.args.root) c.types.ensures in
    let s = lies (layout_in c.args.form c.args.metrics.now.layout) types c.args.root c.args.count c.args.byte c.in-Some.leaf c.size_in-size.result c.leaves.result
    c.forms_are_measured.ensures c.requires c.size_in-size.ensures leaves c.if-element-count.false c.in-Some.ensures.some c.in-Some.ensures.place in
    s.at

pub returns-in-None-clause-none : goal.returns-in-None-clause-none
returns-in-None-clause-none c = λ leaf within at.
    let under = layout_in c.args.form c.args.metrics.now.layout in
    let types = c.args.metrics.now.types in
    let h = holds under types c.args.root c.args.count c.args.byte leaf c.forms_are_measured.ensures c.requires within at in
    let same : c.args.byte % (extent_of under types c.args.root).size ≡ c.args.byte % c.size_in-size.result = ap (λ x. c.args.byte % x) (sym c.size_in-size.ensures) in
    c.in-None.ensures.none (leaf % leaves_of types c.args.root) h.within (h.inner ∙ same)
