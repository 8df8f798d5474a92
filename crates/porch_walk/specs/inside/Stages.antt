-- What the code keeps of where a walk stands, behind one more token.
use Rattle.std.specs.Prelude.{ℕ, ◌≡◌, ◌+◌, Bool, true, false, List, ◌∷◌, map, drop, Option, Some, None}
use Rattle.porch_tree.specs.declared.word.Word.{Word}
use Rattle.porch_tree.specs.Pieces.{Spelled}
use Rattle.porch_lex.specs.declared.token.Token.{Token}
use Rattle.porch_lex.specs.Words.{kind_word, spelled}
use Rattle.porch_walk.specs.declared.stage.Stage.{Stage as Kept}
use Rattle.porch_walk.specs.declared.wrong.WalkFault.{WalkFault}
use Rattle.porch_walk.specs.Walk.{Stage, start, wrong, wrong_at}
use Rattle.porch_walk.specs.Wrongs.{fault_of}
use Rattle.porch_walk.specs.Walks.{Stands}

pub record StandsBehind (o : Option Stage) (k : Kept) : Type 0 where
  pub next : Stage
  pub same : o ≡ Some next
  pub stands : Stands k next

-- a token was taken or not
abbrev pub Stepped : Bool → Option Stage → Kept → Type 0
Stepped true o k = StandsBehind o k
Stepped false o k = o ≡ None

abbrev pub words_of : List Token → List Word
words_of = map (λ t. kind_word t.kind)

-- The walk goes on behind a token where the code stands.
pub record JudgedOn (i : ℕ) (s : Stage) (t : Spelled) (ts : List Spelled) (k : Kept) : Type 0 where
  pub next : Stage
  pub same : wrong i s (t ∷ ts) ≡ wrong (i + 1) next ts
  pub stands : Stands k next

-- what is wrong with a token in front of others, or the stage behind it
abbrev pub Judged : ℕ → Stage → Spelled → List Spelled → Option WalkFault → Kept → Type 0
Judged i s t ts None k = JudgedOn i s t ts k
Judged i s t ts (Some f) k = wrong i s (t ∷ ts) ≡ wrong_at i (fault_of f)

-- From this token on the walk finds what it finds from the first, and the code stands where it does.
pub record Walked (text : List ℕ) (ts : List Token) (i : ℕ) (k : Kept) : Type 0 where
  pub stage : Stage
  pub same : wrong i stage (spelled text (drop i ts)) ≡ wrong 0 start (spelled text ts)
  pub stands : Stands k stage
