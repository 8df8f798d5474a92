use Rattle.std.proofs.Common.{◌≡◌, length, Some, None, ap, ◌∙◌, rules}
use Rattle.porch_check.specs.Sealing.{position_of}
use Rattle.porch_sealing.proofs.OneMorePlace.{last_found}
use Rattle.porch_sealing.proofs.numbers.LastNumbers.find.Goals as goal

pub returns-in-Some : goal.returns-in-Some
returns-in-Some c =
    last_found c.args.number c.self.inside.complete.items c.self.inside.places.entries (Some c.in-Some.place.now) c.self.invariant c.in-Some.ensures.value
    ∙ ap (position_of c.args.number) c.self.view_is

pub returns-in-None : goal.returns-in-None
returns-in-None c =
    let count : c.len.result ≡ length c.self.inside.complete.items = search rules in
    count
    ∙ last_found c.args.number c.self.inside.complete.items c.self.inside.places.entries None c.self.invariant c.in-None.ensures.value
    ∙ ap (position_of c.args.number) c.self.view_is
