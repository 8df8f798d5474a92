use Rattle.std.proofs.Common.{◌≡◌, ◌<◌, length, slice_get, refl, ap, sym, ◌∙◌, arith}
use Rattle.std.proofs.lemmas.Option.{slice_get_within}
use Rattle.porch_types.specs.Rows.{IsSubobject}
use Rattle.porch_points.specs.declared.named.Named.{Named}
use Rattle.porch_points.specs.Words.{NameOne, word_of}
use Rattle.porch_points.proofs.Naming.{none_some, some_one, spot_sub}
use Rattle.porch_points.proofs.Wording.{copied, dead_answers, spot_answers, zero_word}
use Rattle.porch_points.proofs.words.to_word.Goals as goal

pub returns-then-address-eq0 : goal.returns-then-address-eq0
returns-then-address-eq0 c =
    zero_word c.args.metrics.now.layout c.args.metrics.now.types c.args.plan.now.addresses.items c.args.plan.now.places.items c.args.pointee c.args.address c.requires.plan c.if-address-eq0.true

pub get-copy-requires : goal.get-copy-requires
get-copy-requires c =
    let here = (c.in-Some.ensures c.in-Some.named.number c.in-Some.named.spot).0 refl in
    omega (arith, c.requires.plan.alike, slice_get_within c.args.plan.now.addresses.items c.in-Some.named.number here.object here.is_object)

pub word_at-requires-clause-known : goal.word_at-requires-clause-known
word_at-requires-clause-known c =
    let types = c.args.metrics.now.types in
    let n = c.in-Some.named.number in
    let here = (c.in-Some.ensures n c.in-Some.named.spot).0 refl in
    copied c.args.metrics.now.layout types c.args.plan.now.addresses.items c.args.plan.now.places.items n here.object c.get-copy.result (λ ty count. ty < length types) c.requires.plan here.is_object c.get-copy.ensures.root
    (c.requires.plan.known n here.object here.is_object)

pub word_at-requires-clause-sub : goal.word_at-requires-clause-sub
word_at-requires-clause-sub c =
    let l = c.args.metrics.now.layout in
    let types = c.args.metrics.now.types in
    let n = c.in-Some.named.number in
    let spot = c.in-Some.named.spot in
    let here = (c.in-Some.ensures n spot).0 refl in
    copied l types c.args.plan.now.addresses.items c.args.plan.now.places.items n here.object c.get-copy.result (λ ty count. IsSubobject types ty count spot.leaf c.args.pointee) c.requires.plan here.is_object c.get-copy.ensures.root
    (spot_sub l types here.object.ty here.object.count _ c.args.pointee spot here.names.spot_is)

pub returns-in-None : goal.returns-in-None
returns-in-None c =
    dead_answers c.args.metrics.now.layout c.args.metrics.now.types c.args.plan.now.addresses.items c.args.plan.now.places.items c.args.pointee c.args.address (omega (arith, c.if-address-eq0.false))
    (λ other h. none_some (let x : Named = record { number = h.number; spot = h.spot } in x) ((c.in-None.ensures h.number h.spot).1 h.by_address))

pub returns-in-Some : goal.returns-in-Some
returns-in-Some c =
    let l = c.args.metrics.now.layout in
    let types = c.args.metrics.now.types in
    let places = c.args.plan.now.places.items in
    let n = c.in-Some.named.number in
    let spot = c.in-Some.named.spot in
    let copy = c.get-copy.result in
    let here : NameOne l types c.args.plan.now.addresses.items places c.args.pointee c.args.address c.word_at.result =
    record {
      number = n;
      spot = spot;
      copy = copy;
      by_address = (c.in-Some.ensures n spot).0 refl;
      is_copy = c.get-copy.ensures.root;
      word_is = c.word_at.ensures;
    } in
    spot_answers l types c.args.plan.now.addresses.items places c.args.pointee c.args.address c.word_at.result (omega (arith, c.if-address-eq0.false)) here
    (λ other h.
    let named : c.in-Some.named ≡ record { number = h.number; spot = h.spot } = some_one c.in-Some.named (record { number = h.number; spot = h.spot }) ((c.in-Some.ensures h.number h.spot).1 h.by_address) in
    let number : n ≡ h.number = ap (λ (x : Named). x.number) named in
    let same : spot ≡ h.spot = ap (λ (x : Named). x.spot) named in
    let one : copy ≡ h.copy = some_one copy h.copy (sym c.get-copy.ensures.root ∙ ap (slice_get places) number ∙ h.is_copy) in
    c.word_at.ensures ∙ ap (λ o. word_of types o spot) one ∙ ap (word_of types h.copy) same ∙ sym h.word_is)
