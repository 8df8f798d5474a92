-- How far the code has read the tokens of a text.
use Rattle.std.specs.Prelude.{ℕ, ◌≡◌, ◌<◌, ◌-◌, suc, Bool, true, false, nat_eq, if◌then◌else◌, List, [], ◌∷◌, ◌++◌, reverse, take, drop, get_or, Option, Some, None}
use Rattle.porch_tree.specs.Pieces.{Spelled}
use Rattle.porch_lex.specs.declared.token.Token.{Token}
use Rattle.porch_lex.specs.Words.{spelled}
use Rattle.porch_walk.specs.Walk.{Stage, start, step, Wrong}
use Rattle.porch_walk.specs.Walks.{IsAt, knows}
use Rattle.porch_walk.specs.declared.level.Level.{Level}
use Rattle.porch_walk.specs.declared.level.Reading.{Reading}
use Rattle.porch_depth.specs.declared.along.Reader.{Reader}
use Rattle.porch_depth.specs.declared.sweep.Sweep.{Sweep}
use Rattle.porch_walk.specs.Levels.{Read, read, readings, covering}

-- what a token shows where the walk stands, and the levels behind it
abbrev pub read_at : Stage → List Level → ℕ → Spelled → Read
read_at s ls i t = read (knows s t) i t.word s.pending ls

-- A token was read that can come.
pub record IsReadOn (s : Stage) (t : Spelled) (i : ℕ) (old new : Reader) : Type 0 where
  pub next : Stage
  pub same : step s t.word t.bytes ≡ Some next
  pub at : IsAt new.walk next
  pub shown : new.readings.items ≡ old.readings.items ++ (read_at s (reverse old.levels.items) i t).reading ∷ []
  pub levels : reverse new.levels.items ≡ (read_at s (reverse old.levels.items) i t).levels

-- a token was read, or can't come
abbrev pub ReadOn : Bool → Stage → Spelled → ℕ → Reader → Reader → Type 0
ReadOn true s t i old new = IsReadOn s t i old new
ReadOn false s t i old new = (step s t.word t.bytes ≡ None) × (new.readings.items ≡ old.readings.items)

-- The tokens up to token `i` were read.
pub record HasRead (text : List ℕ) (ts : List Token) (i : ℕ) (r : Reader) : Type 0 where
  pub stage : Stage
  pub at : IsAt r.walk stage
  pub same : r.readings.items ++ readings stage (reverse r.levels.items) i (spelled text (drop i ts)) ≡ readings start [] 0 (spelled text ts)

-- how many of these put the token deeper that stands so many tokens before them, and none before that
abbrev pub ending : ℕ → List Reading → ℕ
ending n [] = 0
ending n (r ∷ rs) = if nat_eq r.back (suc n) then suc (ending (suc n) rs) else ending (suc n) rs

-- From place `k` on the readings are these: how many of them put the token before place `k` deeper, and how
-- many no token before any token.
pub record IsSwept (rs : List Reading) (k : ℕ) (s : Sweep) : Type 0 where
  pub covering : s.covering ≡ covering 0 rs
  pub endings : (x : ℕ) → x < k → get_or s.endings.items x 0 ≡ ending (k - suc x) rs

-- the tokens before the one where something is wrong
abbrev pub front_of : List Token → Option Wrong → List Token
front_of ts None = ts
front_of ts (Some w) = take w.token ts
