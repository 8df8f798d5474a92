-- The parts of a line: its word, what stands between the brackets, and the arguments there.
use Rattle.std.specs.Prelude.{ℕ, zero, suc, ◌==◌, if◌then◌else◌, List, [], ◌∷◌, ◌++◌, drop, Option, Some, None}

-- up to the first such byte
abbrev pub before : ℕ → List ℕ → List ℕ
before mark [] = []
before mark (c ∷ cs) = if c == mark then [] else c ∷ before mark cs

-- behind the first such byte
abbrev pub behind : ℕ → List ℕ → List ℕ
behind mark [] = []
behind mark (c ∷ cs) = if c == mark then cs else behind mark cs

abbrev pub BRACKET : ℕ
BRACKET = 40

abbrev pub CLOSING : ℕ
CLOSING = 41

abbrev pub COMMA : ℕ
COMMA = 44

abbrev pub word_part : List ℕ → List ℕ
word_part line = before BRACKET line

abbrev pub inner_part : List ℕ → List ℕ
inner_part line = before CLOSING (behind BRACKET line)

-- the first argument, and the rest behind a comma and a space
abbrev pub first : List ℕ → List ℕ
first inner = before COMMA inner

abbrev pub rest : List ℕ → List ℕ
rest inner = drop 1 (behind COMMA inner)

-- all arguments, at most so many
abbrev pub each_in : {X : Type 0} → (List ℕ → X) → ℕ → List ℕ → List X
each_in f zero inner = []
each_in f (suc k) [] = []
each_in f (suc k) (c ∷ cs) = f (first (c ∷ cs)) ∷ each_in f k (rest (c ∷ cs))

abbrev pub NEWLINE : ℕ
NEWLINE = 10

-- with this before the first line
abbrev pub with_front : List ℕ → Option (List ℕ × List ℕ) → Option (List ℕ × List ℕ)
with_front front None = None
with_front front (Some found) = Some (front ++ found.0, found.1)

-- the first line, up to its newline, and what stands behind it
abbrev pub line_of : List ℕ → Option (List ℕ × List ℕ)
line_of [] = None
line_of (c ∷ cs) = if c == NEWLINE then Some (c ∷ [], cs) else with_front (c ∷ []) (line_of cs)
