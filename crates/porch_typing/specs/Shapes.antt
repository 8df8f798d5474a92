-- The types of a text while it is read: what holds of them at each place, and how they go on to the last ones.
use Rattle.std.specs.Prelude.{ℕ, ◌≡◌, ◌<◌, ◌≤◌, List, [], ◌∷◌, ◌++◌, ⊤, length, slice_get, Some, None}
use Rattle.std.specs.Option.{option_map}
use Rattle.porch_check.specs.Shapes.{Shape, void, pointer, array, function, Member, Row, Shapes, row_of, leaves_of, members_of, VOID}

-- P holds of each element
abbrev pub Each : {A : Type 0} → (A → Type 0) → List A → Type 0
Each P [] = ⊤
Each P (x ∷ xs) = P x × Each P xs

-- there is a type of this number
abbrev pub IsKnown : Shapes → ℕ → Type 0
IsKnown s n = n < length s.rows

-- the type of this number is this one
abbrev pub IsShape : Shapes → ℕ → Shape → Type 0
IsShape s n x = option_map (λ (r : Row). r.shape) (row_of s n) ≡ Some x

-- the types that a type names
abbrev pub parts_of : Shape → List ℕ
parts_of (pointer to) = to ∷ []
parts_of (array of count) = of ∷ []
parts_of (function result params) = result ∷ params
parts_of x = []

-- What holds of the types at each place of a text.
pub record AreShapes (s : Shapes) : Type 0 where
  pub kinds : 9 ≤ length s.rows
  pub void : IsShape s VOID void
  -- complete ones are listed
  pub listed : (n k : ℕ) → leaves_of s n ≡ Some k → (i : ℕ) × (slice_get s.complete i ≡ Some n)
  pub parts : (n : ℕ) (x : Shape) → IsShape s n x → Each (IsKnown s) (parts_of x)
  pub members : (n : ℕ) → Each (λ (m : Member). IsKnown s m.shape) (members_of s n)
  pub bare : (n : ℕ) → leaves_of s n ≡ None → members_of s n ≡ []

-- These types come to those: none changes, complete ones stay as they are, and more become complete.
pub record ComeTo (s last : Shapes) : Type 0 where
  pub shapes : (n : ℕ) (x : Shape) → IsShape s n x → IsShape last n x
  pub rows : (n k : ℕ) → leaves_of s n ≡ Some k → row_of last n ≡ row_of s n
  pub complete : (more : List ℕ) × (last.complete ≡ s.complete ++ more)

-- no type became complete twice
abbrev pub AreOnce : Shapes → Type 0
AreOnce s = (i j n : ℕ) → slice_get s.complete i ≡ Some n → slice_get s.complete j ≡ Some n → i ≡ j

-- From these types to those, on the way to the last ones.
pub record GoOn (last s t : Shapes) : Type 0 where
  pub are : AreShapes t
  pub longer : length s.rows ≤ length t.rows
  pub kept : (n : ℕ) (x : Shape) → IsShape s n x → IsShape t n x
  pub back : ComeTo t last → ComeTo s last
