use Rattle.std.proofs.Common.{◌≡◌, ◌-◌, ◌+◌, ℕ, [], length, Some, slice_get, arith, refl, sym, ap, ◌∙◌}
use Rattle.std.specs.Prelude.{slice_set}
use Rattle.std.proofs.lemmas.Option.{slice_get_read}
use Rattle.porch_objects.specs.Store.{Activation, innermost_in}
use Rattle.porch_live.specs.inside.Edits.{first_becomes}
use Rattle.porch_live.specs.inside.Entries.{StandsAt, stacked}
use Rattle.porch_live.proofs.Found.{change_there}
use Rattle.porch_live.proofs.Stacked.{number_of_last}
use Rattle.porch_live.proofs.entries.set_last.Goals as goal

pub returns-then-len-gt0 : goal.returns-then-len-gt0
returns-then-len-gt0 c = λ none.
    let es = c.args.entries.now.items in
    let found = c.index_mut-entry.result.now in
    let k : ℕ = c.len-len.result - 1 in
    let last : k + 1 ≡ length es = omega (arith, c.len-len.ensures, c.args.entries.now.ok.0, c.if-len-gt0.true) in
    let there : slice_get es k ≡ Some found = slice_get_read es (length es) k found refl (omega (arith, last)) c.index_mut-entry.ensures.value in
    let stands : StandsAt es (innermost_in (stacked es []) none) k =
    record { entry = found; there = there; numbered = sym (number_of_last es [] k none found last there) } in
    ap (λ (a : Activation). slice_set es k a) c.set_first.ensures
    ∙ sym (change_there (first_becomes c.args.value) c.args.index es (innermost_in (stacked es []) none) k found c.requires stands c.index_mut-entry.ensures.value)
