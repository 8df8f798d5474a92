use Rattle.std.proofs.Common.{suc, sym, arith}
use Rattle.porch_metrics.specs.Places.{place_of, place_within}
use Rattle.porch_metrics.proofs.Descending.{lies, place_down}
use Rattle.porch_metrics.proofs.Reading.{before_bound, place_begins, place_goes}
use Rattle.porch_metrics.proofs.descent.place_in.Goals as goal

pub nonzero_div-place : goal.nonzero_div-place
nonzero_div-place c = omega (arith, c.requires.table.counted.some c.args.ty c.requires.known, c.leaves-leaves.ensures.value)

pub nonzero_rem-inner : goal.nonzero_rem-inner
nonzero_rem-inner c = omega (arith, c.requires.table.counted.some c.args.ty c.requires.known, c.leaves-leaves.ensures.value)

pub overflow_mul-place : goal.overflow_mul-place
overflow_mul-place c =
    let b = before_bound c.args.types.now c.args.table.now c.args.ty c.args.leaf c.requires.table c.requires.known in
    rw (c.leaves-leaves.ensures.value, c.size_at.ensures.value) (omega (arith, b, c.requires.near))

pub down-init : goal.down-init
down-init c =
    let some = c.requires.table.counted.some c.args.ty c.requires.known in
    let b = before_bound c.args.types.now c.args.table.now c.args.ty c.args.leaf c.requires.table c.requires.known in
    record {
      known = c.requires.known;
      inside = rw c.leaves-leaves.ensures.value (omega (arith, some));
      near = rw (c.leaves-leaves.ensures.value, c.size_at.ensures.value) b;
      same = place_begins c.args.table.now.layout c.args.types.now c.args.ty c.args.leaf c.leaves-leaves.result c.size_at.result c.leaves-leaves.ensures.value c.size_at.ensures.value;
    }

pub overflow_add-place : goal.overflow_add-place
overflow_add-place c =
    let d = lies c.args.table.now.layout c.args.types.now c.down.whole c.down.inner c.in-Some.part c.requires.table.layout c.requires.table.counted (sym c.in-Some.ensures.value) in
    omega (arith, d.bound, d.holds.below, c.part_start-place.ensures, c.down.invariant.near, c.requires.near)

pub overflow_sub-inner : goal.overflow_sub-inner
overflow_sub-inner c =
    let d = lies c.args.table.now.layout c.args.types.now c.down.whole c.down.inner c.in-Some.part c.requires.table.layout c.requires.table.counted (sym c.in-Some.ensures.value) in
    d.holds.below

pub down-smaller : goal.down-smaller
down-smaller c =
    let d = lies c.args.table.now.layout c.args.types.now c.down.whole c.down.inner c.in-Some.part c.requires.table.layout c.requires.table.counted (sym c.in-Some.ensures.value) in
    d.holds.earlier

pub down-preserved : goal.down-preserved
down-preserved c =
    let l = c.args.table.now.layout in
    let types = c.args.types.now in
    let part = c.in-Some.part in
    let d = lies l types c.down.whole c.down.inner part c.requires.table.layout c.requires.table.counted (sym c.in-Some.ensures.value) in
    record {
      known = omega (arith, d.holds.earlier, c.down.invariant.known);
      inside = omega (arith, d.holds.inside, d.holds.below);
      near = omega (arith, d.bound, d.holds.below, c.part_start-place.ensures, c.down.invariant.near);
      same = place_goes (place_of l types c.args.ty c.args.leaf) c.down.place (place_within (suc c.down.whole) l types c.down.whole c.down.inner) _ _ c.part_start-place.result
          c.down.invariant.same (place_down l types c.down.whole c.down.inner part c.requires.table.layout c.requires.table.counted (sym c.in-Some.ensures.value)) c.part_start-place.ensures;
    }
