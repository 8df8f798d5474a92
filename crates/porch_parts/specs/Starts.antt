-- Whether a type can begin with the first of some tokens, of all bases and all expressions without a
-- typedef name in front.
use Rattle.std.specs.Prelude.{ℕ, ◌≡◌, Bool, true, false, List, [], ◌∷◌}
use Rattle.porch_tree.specs.Mirror.{Expr, Base}
use Rattle.porch_tree.specs.Pieces.{Spelled, Piece, expr_pieces, base_pieces}
use Rattle.porch_tree.specs.Names.{first_name, IsPlain, ReadsBase}
use Rattle.porch_tree.specs.Formed.{IsBase}
use Rattle.porch_tree.specs.Grammar.{AreMatched}
use Rattle.porch_parts.specs.Parts.{begins}

abbrev pub Starts : List (List ℕ) → Bool → List Spelled → Type 0
Starts types b [] = ⊥
Starts types b (t ∷ ts) = begins types t.word t ≡ b

abbrev pub BasesStart : Type 0
BasesStart =
    (types : List (List ℕ)) (inside : Bool) (b : Base) → IsBase b → ReadsBase types b
    → (uses : ℕ) (ps : List Piece) (ts : List Spelled) → AreMatched ts (base_pieces inside b uses ps) → Starts types true ts

abbrev pub PlainsStart : Type 0
PlainsStart =
    (types : List (List ℕ)) (inside : Bool) (e : Expr) → IsPlain types (first_name e)
    → (uses : ℕ) (ps : List Piece) (ts : List Spelled) → AreMatched ts (expr_pieces inside e uses ps) → Starts types false ts
