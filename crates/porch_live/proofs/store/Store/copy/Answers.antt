use Rattle.std.proofs.Common.{◌≡◌, Ok, Result, true, length, map, ap, sym, ◌∙◌}
use Rattle.std.specs.declared.alloc.AllocError.{AllocError}
use Rattle.std.proofs.lemmas.List.{length-map}
use Rattle.porch_values.specs.declared.acts.Act.{Act}
use Rattle.porch_objects.specs.Store as store
use Rattle.porch_objects.specs.Store.{object_at, seen, changed}
use Rattle.porch_live.specs.declared.edit.Edit.TheVariants.{Part}
use Rattle.porch_live.specs.Views.{home_of, value_of}
use Rattle.porch_live.specs.inside.Edits.{has_part, done}
use Rattle.porch_live.specs.inside.Places.{Places, places}
use Rattle.porch_live.proofs.Copying.{copies}
use Rattle.porch_live.proofs.Refused.{on_err}
use Rattle.porch_live.proofs.Unchanged.{unchanged}
use Rattle.porch_live.proofs.store.Store.copy.Goals as goal

pub returns-in_ok-edit-in-Ok-clause-copied : goal.returns-in_ok-edit-in-Ok-clause-copied
returns-in_ok-edit-in-Ok-clause-copied c =
    let s = c.args.self.now in
    let q = c.in-Ok.places in
    let p : Places = record { home = home_of q.home; leaf = q.leaf; other = home_of q.other; first = q.first } in
    let items = c.in_ok-values-in-Ok.values.items in
    let found : Ok p ≡ places (seen s (value_of c.args.to)) (seen s (value_of c.args.from)) =
    c.in-Ok.ensures ∙ ap (λ v. places v (value_of c.seen-2.result)) c.seen.ensures ∙ ap (λ w. places (seen s (value_of c.args.to)) w) c.seen-2.ensures in
    let has : has_part (object_at s p.home) p.leaf (length (map value_of items)) ≡ true =
    ap (λ n. has_part (object_at s p.home) p.leaf n) (length-map items value_of ∙ sym c.in_ok-values-in-Ok.values.ok.0 ∙ sym c.len.ensures)
    ∙ sym c.has_part.ensures ∙ c.if-not-has_part.false in
    ap (λ (after : store.Store). let r : Result store.Store Act = Ok after in r)
    (c.edit.ensures
    ∙ ap (λ (r : Result (Unit {0}) AllocError). changed (done (Part q.leaf c.in_ok-values-in-Ok.values) r) s p.home) c.in_ok-edit-in-Ok.was)
    ∙ sym (copies c.args.count s (value_of c.args.to) (value_of c.args.from) p (map value_of items) found c.in_ok-values-in-Ok.ensures has)

pub returns-in_err-edit-in-Ok-clause-same : goal.returns-in_err-edit-in-Ok-clause-same
returns-in_err-edit-in-Ok-clause-same c =
    let s = c.args.self.now in
    let q = c.in-Ok.places in
    on_err c.from_residual-in_err-edit-in-Ok.result
    (c.edit.ensures
    ∙ ap (λ (r : Result (Unit {0}) AllocError). changed (done (Part q.leaf c.in_ok-values-in-Ok.values) r) s (home_of q.home)) c.in_err-edit-in-Ok.was
    ∙ unchanged s (home_of q.home))
