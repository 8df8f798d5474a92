use Rattle.std.proofs.Common.{◌≡◌, ◌<◌, ◌+◌, ◌^◌, ◌++◌, ◌∷◌, [], length, ap, ◌∙◌, arith, rules, length-append}
use Rattle.porch_sealing.proofs.OneMorePlace.{places_more}
use Rattle.porch_sealing.proofs.numbers.LastNumbers.push.Goals as goal

pub invariant_of-self-2 : goal.invariant_of-self-2
invariant_of-self-2 c =
    let old = c.self.inside.complete.items in
    let same : c.deref.result.now ≡ old = c.deref.ensures.value in
    let few : length old + 1 < 2 ^ 32 = rw same at c.in_ok-place.ensures.few in
    let pushed : c.push_reserved.new.self.items ≡ old ++ c.args.number ∷ [] =
    c.push_reserved.ensures.items ∙ ap (λ ns. ns ++ c.args.number ∷ []) c.reserve.ensures.items in
    places_more old c.push_reserved.new.self.items c.self.inside.places.entries c.note.new.places.entries
    c.args.number c.in_ok-place.place (c.in_ok-place.ensures.place ∙ ap length same) few pushed c.in_ok-note.ensures.noted
    (ap length pushed ∙ length-append old (c.args.number ∷ [])) c.self.invariant
