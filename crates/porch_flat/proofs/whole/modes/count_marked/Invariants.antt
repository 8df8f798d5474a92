use Rattle.std.proofs.Common.{◌≡◌, ◌≤◌, ◌+◌, drop, length, map}
use Rattle.porch_flat.specs.whole.Form.{form_of}
use Rattle.porch_flat.specs.whole.Rewritten.{are_marked, leads_to_checkpoint, places_from}
use Rattle.porch_flat.specs.inside.Walks.{call_places, reach_of}
use Rattle.porch_flat.proofs.whole.modes.count_marked.Given as goal

abbrev pub invariant-loop-at : goal.invariant-loop-at
invariant-loop-at l =
    let forms = map form_of l.f.commands in
    let rest = places_from l.at (leads_to_checkpoint (reach_of l.reaching)) (drop l.at forms) in
    (are_marked (length l.f.vars) forms 1 (call_places (reach_of l.reaching) forms) ≡ are_marked (length l.f.vars) forms (l.count + 1) rest)
    × (length (call_places (reach_of l.reaching) forms) ≡ l.count + length rest)
    × (l.count ≤ l.at)
