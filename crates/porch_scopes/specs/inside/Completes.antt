-- The tags in a list, and the set that finds them.
use Rattle.std.specs.Prelude.{◌≡◌, ℕ, List, map}
use Rattle.std.specs.Borrow.{Bor}
use Rattle.std.specs.List.{list_any}
use Rattle.std.specs.Str.{bytes_eq}

abbrev pub tags_of : List (Bor (List ℕ)) → List (List ℕ)
tags_of ts = map (λ (t : Bor (List ℕ)). t.now) ts

pub record AreKnown (tags keys : List (Bor (List ℕ))) : Type 0 where
  pub same : (x : List ℕ) → list_any (λ (k : Bor (List ℕ)). bytes_eq x k.now) keys ≡ list_any (λ y. bytes_eq x y) (tags_of tags)
