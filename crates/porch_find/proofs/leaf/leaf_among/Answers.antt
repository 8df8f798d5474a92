use Rattle.std.proofs.Common.{◌≡◌, ap, ◌∙◌, arith}
use Rattle.porch_types.specs.Leaves.{leaves_of}
use Rattle.porch_metrics.specs.Places.{place_of}
use Rattle.porch_find.specs.inside.Forms.{layout_in}
use Rattle.porch_find.proofs.Rising.{passes}
use Rattle.porch_find.proofs.leaf.leaf_among.Goals as goal

pub halves-init : goal.halves-init
halves-init c =
    let leaves : c.leaves-high.result ≡ leaves_of c.args.metrics.now.types c.args.ty = c.leaves-high.ensures.value ∙ ap (λ ts. leaves_of ts c.args.ty) c.types.ensures in
    record {
      order = c.leaves-high.ensures.some;
      within = omega (arith, leaves);
      few = c.leaves-high.ensures.small;
      begun = omega (arith, c.forms_are_measured.ensures.begins c.args.ty c.requires);
      ended = λ less. absurd (omega (arith, less, leaves));
    }

pub returns-else-place_in-byte-2-clause-none : goal.returns-else-place_in-byte-2-clause-none
returns-else-place_in-byte-2-clause-none c = λ leaf within.
    let types = c.args.metrics.now.types in
    let i = c.halves.invariant in
    passes (place_of (layout_in c.args.form c.args.metrics.now.layout) types c.args.ty) c.args.byte c.halves.low c.halves.high (leaves_of types c.args.ty) leaf
    (λ a b. c.forms_are_measured.ensures.rise c.args.ty a b c.requires) (omega (arith, c.halves-test.false, i.order)) i.begun i.ended
    (λ e. c.if-place_in-byte-2.false (c.place_in-2.ensures ∙ e)) within
