-- Which texts begin the text of a program, and the first line that no program's text has there.
use Rattle.std.specs.Prelude.{◌≡◌, ◌≢◌, ℕ, ◌+◌, List, [], ◌∷◌, ◌++◌, length}
use Rattle.std.specs.List.{concat, AllByRecursion}
use Rattle.porch_flat.specs.declared.whole.Flat.{Flat}
use Rattle.porch_flat_line.specs.Text.{Text}
use Rattle.porch_flat_text.specs.Fitting.{IsSayable}

-- one line: a newline at its end, and no other
abbrev pub IsLine : List ℕ → Type 0
IsLine [] = ⊥
IsLine (c ∷ []) = c ≡ 10
IsLine (c ∷ d ∷ cs) = (c ≢ 10) × IsLine (d ∷ cs)

-- the text of a program begins so
pub record Begins (text : List ℕ) : Type 0 where
  pub program : Flat
  pub sayable : IsSayable program
  pub more : List ℕ
  pub all : text ++ more ≡ Text program

-- Line number n is the first that no program's text has there: some program's text begins with the lines before it, and
-- none begins with these and the next line, where there is a whole one.
pub record IsFirstWrongLine (text : List ℕ) (n : ℕ) : Type 0 where
  pub lines : List (List ℕ)
  pub rest : List ℕ
  pub split : text ≡ concat lines ++ rest
  pub whole : AllByRecursion IsLine lines
  pub number : n ≡ length lines + 1
  pub before : Begins (concat lines)
  pub wrong : (line more : List ℕ) → IsLine line → rest ≡ line ++ more → Begins (concat lines ++ line) → ⊥
