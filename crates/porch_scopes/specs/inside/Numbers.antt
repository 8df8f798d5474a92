-- The numbers that maps give are the places of the types among the rows.
use Rattle.std.specs.Prelude.{ℕ, ◌≡◌, nat_eq, ◌&&◌, List, [], ◌∷◌, ◌++◌, length, Option, None}
use Rattle.std.specs.Map.{lookup}
use Rattle.std.specs.Str.{bytes_eq}
use Rattle.porch_check.specs.Shapes.{Shape, pointer, array, function, Row, count_eq, place_in}
use Rattle.porch_scopes.specs.declared.numbers.Elements as code_elements
use Rattle.porch_scopes.specs.declared.numbers.Numbers as code_numbers

pub record AreNumbers (rows : List Row) (ns : code_numbers.Numbers) : Type 0 where
  pub pointers : (to : ℕ) → lookup (λ k. nat_eq to k) ns.pointers.entries ≡ place_in (pointer to) rows 0
  pub arrays : (of : ℕ) (count : Option ℕ)
      → lookup (λ (k : code_elements.Elements). nat_eq of k.of && count_eq count k.count) ns.arrays.entries ≡ place_in (array of count) rows 0
  pub functions : (r : ℕ) (ps : List ℕ)
      → lookup (λ k. bytes_eq (r ∷ ps) k.items) ns.functions.entries ≡ place_in (function r ps) rows 0

-- one more type, of the next number
pub record AddsRow (x : Shape) (number : ℕ) (old new : code_numbers.Numbers) : Type 0 where
  pub adds : (rows : List Row) (r : Row) → r.shape ≡ x → number ≡ length rows → place_in x rows 0 ≡ None
      → AreNumbers rows old → AreNumbers (rows ++ r ∷ []) new
