-- The eight bytes of a pointer or a long lie inside their object.
use Rattle.std.proofs.Common.{◌≡◌, ℕ, ◌+◌, ◌*◌, ◌<◌, ◌≤◌, ap, ◌∙◌, arith}
use Rattle.porch_types.specs.Leaves.{leaves_of}
use Rattle.porch_types.specs.LeafTypes.{leaf_type}
use Rattle.porch_layout.specs.Layouts.{IsLayout}
use Rattle.porch_metrics.specs.AddingUp.{ExtentsAddUp}
use Rattle.porch_metrics.specs.Apart.{PlacesRise, LeavesArePacked}
use Rattle.porch_metrics.specs.Bounds.{ElementsHavePlaces}
use Rattle.porch_metrics.specs.Extents.{Extent, extent_of, ucf_layout}
use Rattle.porch_metrics.specs.Places.{place_of}
use Rattle.porch_ucf.specs.inside.Leaves.{WordsLieInside}

reached : (f : ℕ → ℕ) → ((a b : ℕ) → a < b → f a < f b) → (a b : ℕ) → a ≤ b → f a ≤ f b
reached f rise a b le =
    let later : a < b → f a < f b = rise a b in
    let same : a ≡ b → f a ≡ f b = λ e. ap f e in
    grind (arith, later, same)

pub words_inside : ExtentsAddUp → ElementsHavePlaces → PlacesRise → IsLayout ucf_layout → LeavesArePacked → WordsLieInside
words_inside parts elements rise allowed packed = λ types object leaf ty is known within at eight.
    let t = leaf_type types object.ty leaf in
    let total = object.count * leaves_of types object.ty in
    let size : (extent_of ucf_layout types t).size ≡ 8 = ap (λ (e : Extent). e.size) (parts ucf_layout types t ty is at) ∙ eight in
    let next = packed types object.ty leaf is known in
    let end = elements ucf_layout types object.ty object.count allowed is known in
    let le : place_of ucf_layout types object.ty (leaf + 1) ≤ place_of ucf_layout types object.ty total =
    reached (place_of ucf_layout types object.ty) (λ a b lt. rise ucf_layout types object.ty a b allowed is known lt) (leaf + 1) total (omega (arith, within)) in
    omega (arith, size, next, end, le)
