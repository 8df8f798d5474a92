-- A list of types whose leaves add up.
use Rattle.std.proofs.Common.{◌≡◌, ℕ, ◌<◌, List, length, slice_get, Some}
use Rattle.porch_types.specs.declared.shapes.Ty.{Ty}
use Rattle.porch_types.specs.Leaves.{IsTypes, leaf_count, leaves_of}
use Rattle.porch_metrics.specs.inside.Tables.{AreCounted}

pub counted : (types : List Ty) → IsTypes types
    → ((types : List Ty) (number : ℕ) (ty : Ty) → IsTypes types → slice_get types number ≡ Some ty → leaves_of types number ≡ leaf_count (leaves_of types) ty)
    → ((types : List Ty) (number : ℕ) → IsTypes types → number < length types → 0 < leaves_of types number)
    → AreCounted types
counted types are together some = record {
  each = are.formed.each;
  together = λ number ty at. together types number ty are at;
  some = λ number known. some types number are known;
}
