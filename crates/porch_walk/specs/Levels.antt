-- How many counted uses of the grammar each token of a text lies in, as far as the tokens up to some place
-- show it. A walk along the tokens keeps, for each part that may still come, in how many uses it lies.
use Rattle.std.specs.Prelude.{ℕ, suc, ◌+◌, ◌-◌, Bool, nat_lt, if◌then◌else◌, List, [], ◌∷◌, ◌++◌, map, Option, Some, None}
use Rattle.porch_tree.specs.declared.word.Word.{Word}
use Rattle.porch_tree.specs.Pieces.{Spelled}
use Rattle.porch_walk.specs.declared.symbol.Symbol.{Symbol}
use Rattle.porch_walk.specs.Walk.{Stage, step, start}
use Rattle.porch_walk.specs.Walks.{knows}
use Rattle.porch_walk.specs.declared.level.Level.{Level}
use Rattle.porch_walk.specs.declared.level.Reading.{Reading}
use Rattle.porch_walk.specs.declared.level.Step.{Step}
use Rattle.porch_walk.specs.declared.level.Step.TheVariants.{Up, Keep}
use Rattle.porch_walk.specs.Plans.{Plan, item, plan}

-- The uses of a part that may still come, and the token from which on a late use counts that it shows.
abbrev pub level : ℕ → ℕ → Level
level uses start = record { uses = uses; start = start }

abbrev pub GROUND : Level
GROUND = level 0 0

abbrev pub top : List Level → Level
top [] = GROUND
top (l ∷ ls) = l

abbrev pub under : List Level → List Level
under [] = []
under (l ∷ ls) = ls

-- behind token `i`, which a part of this level takes
abbrev pub placed : Level → ℕ → Step → Level
placed l i (Up n) = level (l.uses + n) i
placed l i Keep = l

-- A token that was read, and the levels of the parts that may come behind it. `back` is how many tokens
-- before it turn out to lie one use deeper.
pub record Read : Type 0 where
  pub reading : Reading
  pub levels : List Level

abbrev pub reading_by : Level → ℕ → Plan → Reading
reading_by l i p =
    record { uses = l.uses + p.taken.uses; back = if p.taken.raises then i - l.start else 0 }

abbrev pub read_by : Level → ℕ → Plan → List Level → Read
read_by l i p ls = record { reading = reading_by l i p; levels = map (placed l i) p.steps ++ ls }

abbrev pub read_or : Level → ℕ → Option Plan → List Level → Read → Read
read_or l i None ls other = other
read_or l i (Some p) ls other = read_by l i p ls

-- Token `i` is read: the first part that doesn't leave it out takes it.
abbrev pub read : Bool → ℕ → Word → List Symbol → List Level → Read
read known i w [] ls = read_by GROUND i (item w) []
read known i w (s ∷ ss) ls = read_or (top ls) i (plan w known s) (under ls) (read known i w ss (under ls))

abbrev pub readings_from : Option Stage → (Stage → List Reading) → List Reading
readings_from None go = []
readings_from (Some s) go = go s

-- These tokens, the first of which is token `i`, are read up to the first that can't come.
abbrev pub readings : Stage → List Level → ℕ → List Spelled → List Reading
readings s ls i [] = []
readings s ls i (t ∷ ts) =
    readings_from (step s t.word t.bytes)
    (λ next. (read (knows s t) i t.word s.pending ls).reading
    ∷ readings next (read (knows s t) i t.word s.pending ls).levels (i + 1) ts)

-- how many of these put the token deeper that stands so many tokens before them
abbrev pub covering : ℕ → List Reading → ℕ
covering n [] = 0
covering n (r ∷ rs) = if nat_lt n r.back then suc (covering (suc n) rs) else covering (suc n) rs

-- the uses that are shown of each token
abbrev pub shown : List Reading → List ℕ
shown [] = []
shown (r ∷ rs) = (r.uses + covering 0 rs) ∷ shown rs

abbrev pub uses_shown : List Spelled → List ℕ
uses_shown ts = shown (readings start [] 0 ts)
