-- What the code keeps of where a walk stands, and where a walk stands that its caller leads.
use Rattle.std.specs.Prelude.{ℕ, ◌≡◌, fold, Bool, true, false, List, [], ◌∷◌, Option, Some, None}
use Rattle.std.specs.List.{list_any}
use Rattle.std.specs.Str.{bytes_eq}
use Rattle.std.specs.Borrow.{Bor}
use Rattle.porch_tree.specs.Pieces.{Spelled}
use Rattle.porch_walk.specs.declared.stage.Stage.{Stage as Kept}
use Rattle.porch_walk.specs.declared.token_walk.TokenWalk.{TokenWalk}
use Rattle.porch_walk.specs.Walk.{Stage, step, name_bytes, names_type}

-- the keys are the typedef names
abbrev pub AreTypes : List (Bor (List ℕ)) → List (List ℕ) → Type 0
AreTypes ks types = (n : List ℕ) → list_any (λ k. bytes_eq n k.now) ks ≡ names_type types n

-- The code stands where the walk stands. What it keeps pending has the next symbol last.
pub record Stands (k : Kept) (s : Stage) : Type 0 where
  pub types : AreTypes k.types.keys s.types
  pub fresh : k.fresh.now ≡ s.fresh
  pub inside : k.inside ≡ s.inside
  pub pending : fold (λ above symbol. symbol ∷ above) [] k.pending.items ≡ s.pending

-- A walk that its caller leads has read tokens behind which it stands here.
pub record IsAt (w : TokenWalk) (s : Stage) : Type 0 where
  pub stands : Stands w.stage s

pub record IsBehind (o : Option Stage) (w : TokenWalk) : Type 0 where
  pub next : Stage
  pub same : o ≡ Some next
  pub at : IsAt w next

-- a token was taken or not
abbrev pub Took : Bool → Option Stage → TokenWalk → Type 0
Took true o w = IsBehind o w
Took false o w = o ≡ None

-- where the walk stands behind one more token, and whether that is a typedef name
abbrev pub step_by : Stage → Spelled → Option Stage
step_by s t = step s t.word t.bytes

abbrev pub knows : Stage → Spelled → Bool
knows s t = names_type s.types (name_bytes t.word t.bytes)
