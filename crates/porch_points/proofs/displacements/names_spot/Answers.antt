use Rattle.std.proofs.Common.{refl}
use Rattle.std.proofs.lemmas.Option.{slice_get_within}
use Rattle.porch_points.specs.declared.named.Begun.{Begun}
use Rattle.porch_points.proofs.Naming.{none_some}
use Rattle.porch_points.proofs.Displacing.{begun_of, named, only, sub_found, at_end, end_at, at_begin}
use Rattle.porch_points.proofs.displacements.names_spot.Goals as goal

pub get-object-requires : goal.get-object-requires
get-object-requires c =
    let here = (c.in-Some.ensures c.in-Some.begun.number c.in-Some.begun.leaf).0 refl in
    slice_get_within c.args.places.now.items c.in-Some.begun.number here.object here.is_object

pub returns-in-None : goal.returns-in-None
returns-in-None c = (
  λ yes. cc,
  λ h. absurd (none_some (let b : Begun = record { number = h.number; leaf = h.spot.leaf } in b) ((c.in-None.ensures h.number h.spot.leaf).1
      (begun_of c.args.metrics.now.types c.args.places.now.items c.args.pointee c.args.word c.is_odd-past.result c.is_odd-past.ensures h))),
)

pub returns-then-past : goal.returns-then-past
returns-then-past c =
    let types = c.args.metrics.now.types in
    let places = c.args.places.now.items in
    let begun = c.in-Some.begun in
    let object = c.get-object.result in
    let odd = c.is_odd-past.result in (
      λ yes. named types places c.args.pointee c.args.word odd c.is_odd-past.ensures begun object c.get-object.ensures.root c.in-Some.ensures c.requires.named
          (at_end types object c.args.pointee begun.leaf odd c.if-past.true (rw c.from.ensures at (c.ends_row.ensures.0 yes))),
      λ h. c.ends_row.ensures.1 (rw c.from.ensures (end_at types object c.args.pointee begun.leaf odd c.if-past.true
          (only types places c.args.pointee c.args.word odd c.is_odd-past.ensures begun object c.get-object.ensures.root c.in-Some.ensures h))),
    )

pub returns-else-past : goal.returns-else-past
returns-else-past c =
    let types = c.args.metrics.now.types in
    let places = c.args.places.now.items in
    let begun = c.in-Some.begun in
    let object = c.get-object.result in
    let odd = c.is_odd-past.result in (
      λ yes. named types places c.args.pointee c.args.word odd c.is_odd-past.ensures begun object c.get-object.ensures.root c.in-Some.ensures c.requires.named
          (at_begin types object c.args.pointee begun.leaf odd c.if-past.false
          (sub_found types places c.args.pointee c.args.word odd c.is_odd-past.ensures begun object c.get-object.ensures.root c.in-Some.ensures)),
      λ h. refl,
    )
