use Rattle.std.proofs.Common.{◌≡◌, ℕ, Option, Some, None, refl, ap, ◌∙◌, subst, arith}
use Rattle.porch_find.specs.declared.spot.Spot.{Spot}
use Rattle.porch_points.specs.declared.named.Named.{Named}
use Rattle.porch_points.specs.Words.{NamesSpot}
use Rattle.porch_points.proofs.Naming.{EndInside, begins_before, found_in, named_last, none_some, some_one}
use Rattle.porch_points.proofs.named.named_by_address.Goals as goal

pub root_at-requires : goal.root_at-requires
root_at-requires c = λ i j a b lt at_i at_j. omega (arith, c.requires.apart i j a b lt at_i at_j)

pub overflow_sub-address : goal.overflow_sub-address
overflow_sub-address c =
    begins_before c.args.addresses.now.items c.get-object.result c.args.address c.in-Some.number c.get-object.ensures.root ((c.in-Some.ensures.last c.in-Some.number).0 refl)

pub returns-in-None : goal.returns-in-None
returns-in-None c = λ number spot.
    let l = c.args.metrics.now.layout in
    let types = c.args.metrics.now.types in
    let law : EndInside l types = λ root count pointee leaf. c.subobjects_end_inside.ensures l types root count pointee leaf c.layout-layout.ensures.allowed c.layout-layout.ensures.types in (
      λ e. absurd (none_some (let x : Named = record { number = number; spot = spot } in x) e),
      λ h. absurd (none_some number ((c.in-None.ensures.last number).1
          (named_last l types c.args.addresses.now.items c.args.pointee c.args.address number spot law c.requires.known c.requires.apart h))),
    )

pub returns-in-None-find : goal.returns-in-None-find
returns-in-None-find c = λ number spot.
    let l = c.args.metrics.now.layout in
    let types = c.args.metrics.now.types in
    let objects = c.args.addresses.now.items in
    let law : EndInside l types = λ root count pointee leaf. c.subobjects_end_inside.ensures l types root count pointee leaf c.layout-layout.ensures.allowed c.layout-layout.ensures.types in (
      λ e. absurd (none_some (let x : Named = record { number = number; spot = spot } in x) e),
      λ h.
          let last = named_last l types objects c.args.pointee c.args.address number spot law c.requires.known c.requires.apart h in
          let f = found_in l types objects c.get-object.result c.args.pointee c.args.address c.in-Some.number number spot c.in-Some.ensures.last c.get-object.ensures.root h last in
          absurd (none_some spot ((c.in-None-find.ensures.spot spot).1 (rw c.from-count.ensures f.spot_is))),
    )

abbrev OnNamed : (ℕ → Spot → Type 0) → Option Named → Type 0
OnNamed P None = ⊥
OnNamed P (Some named) = P named.number named.spot

abbrev named_at : ℕ → Spot → Option Named
named_at number spot = Some (record { number = number; spot = spot })

pub returns-in-Some-find : goal.returns-in-Some-find
returns-in-Some-find c = λ number spot.
    let l = c.args.metrics.now.layout in
    let types = c.args.metrics.now.types in
    let objects = c.args.addresses.now.items in
    let own = c.in-Some.number in
    let own_spot = c.in-Some-find.spot in
    let object = c.get-object.result in
    let law : EndInside l types = λ root count pointee leaf. c.subobjects_end_inside.ensures l types root count pointee leaf c.layout-layout.ensures.allowed c.layout-layout.ensures.types in
    let here : NamesSpot l types objects c.args.pointee c.args.address own own_spot =
    record {
      object = object;
      is_object = c.get-object.ensures.root;
      names = record {
        begun = begins_before objects object c.args.address own c.get-object.ensures.root ((c.in-Some.ensures.last own).0 refl);
        spot_is = rw (← c.from-count.ensures) ((c.in-Some-find.ensures.spot own_spot).0 refl);
      };
    } in (
      λ e. subst (OnNamed (NamesSpot l types objects c.args.pointee c.args.address)) e here,
      λ h.
          let last = named_last l types objects c.args.pointee c.args.address number spot law c.requires.known c.requires.apart h in
          let f = found_in l types objects object c.args.pointee c.args.address own number spot c.in-Some.ensures.last c.get-object.ensures.root h last in
          let one : own_spot ≡ spot = some_one own_spot spot ((c.in-Some-find.ensures.spot spot).1 (rw c.from-count.ensures f.spot_is)) in
          ap (λ n. named_at n own_spot) f.number_is ∙ ap (named_at number) one,
    )
