use Rattle.std.proofs.Common.{◌≡◌, slice_get, refl, ap, sym, ◌∙◌, subst, arith}
use Rattle.std.proofs.lemmas.Option.{slice_get_within}
use Rattle.porch_types.specs.Rows.{IsSubobject}
use Rattle.porch_points.specs.declared.named.Begun.{Begun}
use Rattle.porch_points.specs.Words.{NamesIn}
use Rattle.porch_points.proofs.Naming.{none_some, some_one}
use Rattle.porch_points.proofs.Addressing.{odd_named, original, place_named, places_known, word_back}
use Rattle.porch_points.proofs.addresses.address_of.Goals as goal

pub named_by_place-requires-clause-known : goal.named_by_place-requires-clause-known
named_by_place-requires-clause-known c = places_known c.args.metrics.now.layout c.args.metrics.now.types c.args.plan.now.addresses.items c.args.plan.now.places.items c.requires.plan

pub get-object-requires : goal.get-object-requires
get-object-requires c =
    let here = (c.in-Some.ensures c.in-Some.begun.number c.in-Some.begun.leaf).0 refl in
    omega (arith, c.requires.plan.alike, slice_get_within c.args.plan.now.places.items c.in-Some.begun.number here.object here.is_object)

pub address_at-requires-clause-sub : goal.address_at-requires-clause-sub
address_at-requires-clause-sub c =
    let types = c.args.metrics.now.types in
    let n = c.in-Some.begun.number in
    let leaf = c.in-Some.begun.leaf in
    let here = (c.in-Some.ensures n leaf).0 refl in
    original c.args.metrics.now.layout types c.args.plan.now.addresses.items c.args.plan.now.places.items n c.get-object.result here.object (λ ty count. IsSubobject types ty count leaf c.args.pointee) c.requires.plan c.get-object.ensures.root here.is_object here.names.spot_is.is

pub returns-in-None : goal.returns-in-None
returns-in-None c = λ address. (
  λ e. absurd (none_some address e),
  λ h.
      absurd (none_some (let x : Begun = record { number = h.number; leaf = h.spot.leaf } in x) ((c.in-None.ensures h.number h.spot.leaf).1
      (place_named c.args.metrics.now.layout c.args.metrics.now.types c.args.plan.now.addresses.items c.args.plan.now.places.items c.args.pointee address c.args.word c.is_odd-past.result c.requires.plan c.is_odd-past.ensures h))),
)

pub returns-in-Some : goal.returns-in-Some
returns-in-Some c = λ address.
    let l = c.args.metrics.now.layout in
    let types = c.args.metrics.now.types in
    let addresses = c.args.plan.now.addresses.items in
    let places = c.args.plan.now.places.items in
    let begun = c.in-Some.begun in
    let odd = c.is_odd-past.result in
    let object = c.get-object.result in
    let here = (c.in-Some.ensures begun.number begun.leaf).0 refl in (
      λ e. record {
        number = begun.number;
        spot = record { leaf = begun.leaf; past = odd };
        copy = here.object;
        by_address = record {
          object = object;
          is_object = c.get-object.ensures.root;
          names = (c.address_at.ensures address).0 e;
        };
        is_copy = here.is_object;
        word_is = word_back types here.object c.args.word c.args.pointee begun.leaf odd c.requires.named c.is_odd-past.ensures here.names;
      },
      λ h.
          let n = h.by_address in
          let place = place_named l types addresses places c.args.pointee address c.args.word odd c.requires.plan c.is_odd-past.ensures h in
          let same : begun ≡ record { number = h.number; leaf = h.spot.leaf } = some_one begun (record { number = h.number; leaf = h.spot.leaf }) ((c.in-Some.ensures h.number h.spot.leaf).1 place) in
          let number : begun.number ≡ h.number = ap (λ (x : Begun). x.number) same in
          let leaf : begun.leaf ≡ h.spot.leaf = ap (λ (x : Begun). x.leaf) same in
          let one : object ≡ n.object = some_one object n.object (sym c.get-object.ensures.root ∙ ap (slice_get addresses) number ∙ n.is_object) in
          let at_object : NamesIn l types object c.args.pointee address h.spot = subst (λ o. NamesIn l types o c.args.pointee address h.spot) (sym one) n.names in
          let at_leaf : NamesIn l types object c.args.pointee address (record { leaf = begun.leaf; past = h.spot.past }) = subst (λ i. NamesIn l types object c.args.pointee address (record { leaf = i; past = h.spot.past })) (sym leaf) at_object in
          let past : odd ≡ h.spot.past = odd_named l types addresses places c.args.pointee address c.args.word odd c.is_odd-past.ensures h in
          (c.address_at.ensures address).1 (subst (λ b. NamesIn l types object c.args.pointee address (record { leaf = begun.leaf; past = b })) (sym past) at_leaf),
    )
