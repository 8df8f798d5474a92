use Rattle.std.proofs.Common.{◌≡◌, ◌<◌, ℕ, false, Option, Some, None, refl, ap, ◌∙◌, subst, arith}
use Rattle.porch_metrics.specs.Extents.{extent_of, ucf_layout}
use Rattle.porch_find.specs.declared.spot.Spot.{Spot}
use Rattle.porch_points.specs.declared.named.Begun.{Begun}
use Rattle.porch_points.specs.Words.{NamesSpot}
use Rattle.porch_points.proofs.Naming.{EndInside, as_begun, begins_before, begun_last, found_in, none_some, not_past, some_one}
use Rattle.porch_points.proofs.named.named_by_place.Goals as goal

abbrev OnBegun : (ℕ → ℕ → Type 0) → Option Begun → Type 0
OnBegun P None = ⊥
OnBegun P (Some begun) = P begun.number begun.leaf

abbrev begun_at : ℕ → ℕ → Option Begun
begun_at number leaf = Some (record { number = number; leaf = leaf })

pub root_at-requires : goal.root_at-requires
root_at-requires c = λ i j a b lt at_i at_j. omega (arith, c.requires.follow i j a b lt at_i at_j)

pub overflow_sub-place : goal.overflow_sub-place
overflow_sub-place c =
    begins_before c.args.places.now.items c.get-object.result c.args.place c.in-Some.number c.get-object.ensures.root ((c.in-Some.ensures.last c.in-Some.number).0 refl)

pub returns-in-None : goal.returns-in-None
returns-in-None c = λ number leaf.
    let types = c.args.metrics.now.types in
    let are = c.layout-layout.ensures.types in
    let law : EndInside ucf_layout types = λ root count pointee leaf. c.subobjects_end_inside.ensures ucf_layout types root count pointee leaf c.ucf_is_a_layout.ensures are in
    let some : 0 < (extent_of ucf_layout types c.args.pointee).size = (c.extents_are_bounded.ensures ucf_layout types c.args.pointee c.ucf_is_a_layout.ensures are c.requires.pointee).some in (
      λ e. absurd (none_some (let x : Begun = record { number = number; leaf = leaf } in x) e),
      λ h. absurd (none_some number ((c.in-None.ensures.last number).1
          (begun_last ucf_layout types c.args.places.now.items c.args.pointee c.args.place number leaf law some c.requires.known c.requires.follow h))),
    )

pub returns-in-None-find_ucf : goal.returns-in-None-find_ucf
returns-in-None-find_ucf c = λ number leaf.
    let types = c.args.metrics.now.types in
    let objects = c.args.places.now.items in
    let are = c.layout-layout.ensures.types in
    let spot : Spot = record { leaf = leaf; past = false } in
    let law : EndInside ucf_layout types = λ root count pointee leaf. c.subobjects_end_inside.ensures ucf_layout types root count pointee leaf c.ucf_is_a_layout.ensures are in
    let some : 0 < (extent_of ucf_layout types c.args.pointee).size = (c.extents_are_bounded.ensures ucf_layout types c.args.pointee c.ucf_is_a_layout.ensures are c.requires.pointee).some in (
      λ e. absurd (none_some (let x : Begun = record { number = number; leaf = leaf } in x) e),
      λ h.
          let last = begun_last ucf_layout types objects c.args.pointee c.args.place number leaf law some c.requires.known c.requires.follow h in
          let f = found_in ucf_layout types objects c.get-object.result c.args.pointee c.args.place c.in-Some.number number spot c.in-Some.ensures.last c.get-object.ensures.root h last in
          absurd (none_some spot ((c.in-None-find_ucf.ensures.spot spot).1 (rw c.from-count.ensures f.spot_is))),
    )

pub returns-then-spot : goal.returns-then-spot
returns-then-spot c = λ number leaf.
    let types = c.args.metrics.now.types in
    let objects = c.args.places.now.items in
    let are = c.layout-layout.ensures.types in
    let own = c.in-Some-find_ucf.spot in
    let spot : Spot = record { leaf = leaf; past = false } in
    let law : EndInside ucf_layout types = λ root count pointee leaf. c.subobjects_end_inside.ensures ucf_layout types root count pointee leaf c.ucf_is_a_layout.ensures are in
    let some : 0 < (extent_of ucf_layout types c.args.pointee).size = (c.extents_are_bounded.ensures ucf_layout types c.args.pointee c.ucf_is_a_layout.ensures are c.requires.pointee).some in (
      λ e. absurd (none_some (let x : Begun = record { number = number; leaf = leaf } in x) e),
      λ h.
          let last = begun_last ucf_layout types objects c.args.pointee c.args.place number leaf law some c.requires.known c.requires.follow h in
          let f = found_in ucf_layout types objects c.get-object.result c.args.pointee c.args.place c.in-Some.number number spot c.in-Some.ensures.last c.get-object.ensures.root h last in
          absurd (not_past own spot (some_one own spot ((c.in-Some-find_ucf.ensures.spot spot).1 (rw c.from-count.ensures f.spot_is))) c.if-spot.true refl),
    )

pub returns-else-spot : goal.returns-else-spot
returns-else-spot c = λ number leaf.
    let types = c.args.metrics.now.types in
    let objects = c.args.places.now.items in
    let are = c.layout-layout.ensures.types in
    let object = c.get-object.result in
    let k = c.in-Some.number in
    let own = c.in-Some-find_ucf.spot in
    let spot : Spot = record { leaf = leaf; past = false } in
    let law : EndInside ucf_layout types = λ root count pointee leaf. c.subobjects_end_inside.ensures ucf_layout types root count pointee leaf c.ucf_is_a_layout.ensures are in
    let some : 0 < (extent_of ucf_layout types c.args.pointee).size = (c.extents_are_bounded.ensures ucf_layout types c.args.pointee c.ucf_is_a_layout.ensures are c.requires.pointee).some in
    let here : NamesSpot ucf_layout types objects c.args.pointee c.args.place k (record { leaf = own.leaf; past = false }) =
    record {
      object = object;
      is_object = c.get-object.ensures.root;
      names = record {
        begun = begins_before objects object c.args.place k c.get-object.ensures.root ((c.in-Some.ensures.last k).0 refl);
        spot_is = as_begun ucf_layout types object.ty object.count _ c.args.pointee own c.if-spot.false (rw (← c.from-count.ensures) ((c.in-Some-find_ucf.ensures.spot own).0 refl));
      };
    } in (
      λ e. subst (OnBegun (λ n i. NamesSpot ucf_layout types objects c.args.pointee c.args.place n (record { leaf = i; past = false }))) e here,
      λ h.
          let last = begun_last ucf_layout types objects c.args.pointee c.args.place number leaf law some c.requires.known c.requires.follow h in
          let f = found_in ucf_layout types objects object c.args.pointee c.args.place k number spot c.in-Some.ensures.last c.get-object.ensures.root h last in
          let one : own ≡ spot = some_one own spot ((c.in-Some-find_ucf.ensures.spot spot).1 (rw c.from-count.ensures f.spot_is)) in
          ap (λ n. begun_at n own.leaf) f.number_is ∙ ap (λ (s : Spot). begun_at number s.leaf) one,
    )
