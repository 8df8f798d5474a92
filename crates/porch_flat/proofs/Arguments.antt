-- The places of arguments from one of them on.
use Rattle.std.proofs.Common.{◌≡◌, ◌<◌, ◌+◌, ℕ, zero, suc, List, [], ◌∷◌, length, drop, None, arith, refl, add-one}
use Rattle.std.proofs.Math.ListN.{get_or}
use Rattle.std.specs.Prelude.{slice_get}
use Rattle.porch_flat.specs.declared.flat.Operand.{Operand}
use Rattle.porch_flat.specs.whole.Places.{place, argument_places}

more_than_parameters : (os : List Operand) (at : ℕ) (d : Operand) → at < length os
    → argument_places (drop at os) [] ≡ place (get_or os at d) None ∷ argument_places (drop (suc at) os) []
more_than_parameters [] at d h = absurd (omega arith)
more_than_parameters (o ∷ os) zero d h = refl
more_than_parameters (o ∷ os) (suc at) d h = more_than_parameters os at d (omega arith)

next_place : (os : List Operand) (types : List ℕ) (at : ℕ) (d : Operand) → at < length os
    → argument_places (drop at os) (drop at types)
    ≡ place (get_or os at d) (slice_get types at) ∷ argument_places (drop (suc at) os) (drop (suc at) types)
next_place [] types at d h = absurd (omega arith)
next_place (o ∷ os) [] zero d h = refl
next_place (o ∷ os) [] (suc at) d h = more_than_parameters os at d (omega arith)
next_place (o ∷ os) (t ∷ types) zero d h = refl
next_place (o ∷ os) (t ∷ types) (suc at) d h = next_place os types at d (omega arith)

pub places_more : (os : List Operand) (types : List ℕ) (at : ℕ) (d : Operand) → at < length os
    → argument_places (drop at os) (drop at types)
    ≡ place (get_or os at d) (slice_get types at) ∷ argument_places (drop (at + 1) os) (drop (at + 1) types)
places_more os types at d h = rw add-one (next_place os types at d h)
