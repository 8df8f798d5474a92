-- How far a text has been read, and which names are typedef names there. The code has these in another order
-- than the definition.
use Rattle.std.specs.Prelude.{ℕ, ◌≡◌, List, [], map}
use Rattle.std.specs.Borrow.{Bor}
use Rattle.porch_tree.specs.Pieces.{Spelled}
use Rattle.porch_parts.specs.Parts.{names_type}
use Rattle.porch_unit.specs.Units.{State, start, step, run, learned}

-- the keys are these names
abbrev pub AreTypes : List (Bor (List ℕ)) → List (List ℕ) → Type 0
AreTypes ks names = (n : List ℕ) → names_type (map (λ k. k.now) ks) n ≡ names_type names n

-- One more token led here.
pub record HasStepped (names : List (List ℕ)) (s : State) (t : Spelled) (ks : List (Bor (List ℕ))) (next : State) : Type 0 where
  pub same : next ≡ step names s t
  pub types : AreTypes ks (learned names next)

-- What the tokens that are left come to from here, all of them come to from the start.
pub record HasRead (ks : List (Bor (List ℕ))) (s : State) (left all : List Spelled) : Type 0 where
  pub names : List (List ℕ)
  pub types : AreTypes ks names
  pub same : run names s left ≡ run [] start all
