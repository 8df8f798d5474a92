-- A pattern over and over.
use Rattle.std.specs.Prelude.{ℕ, ◌%◌, List, [], ◌∷◌, length, map, slice_index_or}
use Rattle.std.specs.List.{range_with_len}

-- so many values, which are those of a pattern over and over; none where the pattern has none
abbrev pub repeated : {V : Type 0} → ℕ → List V → List V
repeated len [] = []
repeated len (first ∷ more) = map (λ i. slice_index_or (first ∷ more) (i % length (first ∷ more)) first) (range_with_len 0 len)
