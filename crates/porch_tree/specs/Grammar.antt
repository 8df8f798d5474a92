-- Which tokens are a unit, and which of them is the first that is wrong.
use Rattle.std.specs.Prelude.{ℕ, ◌≡◌, ◌<◌, ◌≤◌, ◌+◌, ◌⊎◌, Bool, true, false, ◌&&◌, ◌||◌, IsTrue, List, [], ◌∷◌, ◌++◌, length, map, take, drop, slice_get, All, Option, Some, None, ⊤}
use Rattle.porch_tree.specs.declared.word.Keyword.{Keyword}
use Rattle.porch_tree.specs.declared.word.Keyword.TheVariants as key
use Rattle.porch_tree.specs.declared.word.Mark.{Mark}
use Rattle.porch_tree.specs.declared.word.Mark.TheVariants.{OpenBrace}
use Rattle.porch_tree.specs.declared.word.Word.{Word}
use Rattle.porch_tree.specs.declared.word.Word.TheVariants as word
use Rattle.porch_tree.specs.Mirror.{TranslationUnit}
use Rattle.porch_tree.specs.Pieces.{Spelled, Piece, unit_pieces}
use Rattle.porch_tree.specs.Names.{ReadsNames}
use Rattle.porch_tree.specs.Formed.{AreItems}

-- the most counted uses of the grammar that may lie in one another
abbrev pub MOST_USES : ℕ
MOST_USES = 200

-- A token is this piece of a tree.

abbrev pub HasPlace : Option ℕ → ℕ → Type 0
HasPlace None at = ⊤
HasPlace (Some k) at = at ≡ k

-- a keyword and a mark have one spelling
abbrev pub HasBytes : Word → List ℕ → List ℕ → Type 0
HasBytes (word.Key k) bytes own = ⊤
HasBytes (word.Mark m) bytes own = ⊤
HasBytes w bytes own = bytes ≡ own

pub record Matches (t : Spelled) (p : Piece) : Type 0 where
  pub word : t.word ≡ p.word
  pub place : HasPlace p.at t.at
  pub bytes : HasBytes p.word t.bytes p.bytes

abbrev pub AreMatched : List Spelled → List Piece → Type 0
AreMatched [] [] = ⊤
AreMatched (t ∷ ts) (p ∷ ps) = Matches t p × AreMatched ts ps
AreMatched ts ps = ⊥

-- Words outside the language: these keywords, and inside a function typedef, static, and struct or enum
-- with a brace.

abbrev pub is_outside_key : Keyword → Bool
is_outside_key key.Float = true
is_outside_key key.Double = true
is_outside_key key.Union = true
is_outside_key key.Goto = true
is_outside_key key.Register = true
is_outside_key key.Volatile = true
is_outside_key key.Extern = true
is_outside_key key.Auto = true
is_outside_key k = false

abbrev pub is_file_key : Keyword → Bool
is_file_key key.Typedef = true
is_file_key key.Static = true
is_file_key k = false

abbrev pub is_tag_key : Keyword → Bool
is_tag_key key.Struct = true
is_tag_key key.Enum = true
is_tag_key k = false

abbrev pub is_brace_mark : Mark → Bool
is_brace_mark OpenBrace = true
is_brace_mark m = false

abbrev pub is_brace : Word → Bool
is_brace (word.Mark m) = is_brace_mark m
is_brace w = false

abbrev pub is_name : Word → Bool
is_name word.Name = true
is_name w = false

-- a brace, or a tag and a brace
abbrev pub begins_brace : List Word → Bool
begins_brace [] = false
begins_brace (w ∷ []) = is_brace w
begins_brace (w ∷ v ∷ ws) = is_brace w || (is_name w && is_brace v)

-- whether the first of these words is outside the language, in a function or not
abbrev pub is_outside : Bool → List Word → Bool
is_outside inside [] = false
is_outside inside (word.Key k ∷ ws) =
    is_outside_key k || (inside && (is_file_key k || (is_tag_key k && begins_brace ws)))
is_outside inside (w ∷ ws) = false

abbrev pub AreWithin : List Piece → Type 0
AreWithin [] = ⊤
AreWithin (p ∷ ps) =
    (is_outside p.inside (p.word ∷ map (λ q. q.word) ps) ≡ false) × AreWithin ps

-- These tokens are this unit, however deep its parts lie.
pub record IsDeepUnit (ts : List Spelled) (u : TranslationUnit) : Type 0 where
  pub spelled : AreMatched ts (unit_pieces u)
  pub formed : AreItems u
  pub names : ReadsNames [] u
  pub within : AreWithin (unit_pieces u)

-- These tokens are this unit.
pub record IsUnit (ts : List Spelled) (u : TranslationUnit) : Type 0 where
  pub unit : IsDeepUnit ts u
  pub shallow : All (λ p. p.uses ≤ MOST_USES) (unit_pieces u)

-- This unit, however deep, begins with these tokens.
pub record Begins (ts : List Spelled) (u : TranslationUnit) : Type 0 where
  pub rest : List Spelled
  pub unit : IsDeepUnit (ts ++ rest) u

-- some unit begins with them
pub record AreBeginning (ts : List Spelled) : Type 0 where
  pub unit : TranslationUnit
  pub begins : Begins ts unit

-- The first token with which no unit goes on, or the end of what only begins one.
pub data Stops (ts : List Spelled) (i : ℕ) : Type 0 where
  at_token : i < length ts → AreBeginning (take i ts) → (AreBeginning (take (i + 1) ts) → ⊥) → Stops ts i
  at_end : i ≡ length ts → AreBeginning ts → ((u : TranslationUnit) → IsDeepUnit ts u → ⊥) → Stops ts i

abbrev pub inside_at : Option Piece → Bool
inside_at None = false
inside_at (Some p) = p.inside

abbrev pub uses_at : Option Piece → ℕ
uses_at None = 0
uses_at (Some p) = p.uses

-- The token is outside the language, behind the beginning of a unit.
pub record IsOutside (ts : List Spelled) (i : ℕ) : Type 0 where
  pub unit : TranslationUnit
  pub begins : Begins (take i ts) unit
  pub outside : IsTrue (is_outside (inside_at (slice_get (unit_pieces unit) i)) (map (λ t. t.word) (drop i ts)))

-- The token lies too deep, as far as the tokens up to a place show it.
pub record IsTooDeep (ts : List Spelled) (place i : ℕ) : Type 0 where
  pub before : i < place
  pub deep : (u : TranslationUnit) → Begins (take place ts) u → MOST_USES < uses_at (slice_get (unit_pieces u) i)

pub data Fault : Type 0 where
  syntax_fault nesting outside : Fault

-- how far a text is read: up to a place of Outside or of Syntax, or to its end
pub data Halts (ts : List Spelled) (place : ℕ) : Option Fault → Type 0 where
  at_outside : IsOutside ts place → Halts ts place (Some outside)
  at_stop : Stops ts place → (IsOutside ts place → ⊥) → Halts ts place (Some syntax_fault)
  at_unit : place ≡ length ts → (u : TranslationUnit) → IsDeepUnit ts u → Halts ts place None

pub record IsReach (ts : List Spelled) (place : ℕ) (found : Option Fault) : Type 0 where
  pub halts : Halts ts place found
  pub first : (i : ℕ) → i < place → (IsOutside ts i ⊎ Stops ts i) → ⊥

-- What is named, and the number of the token that it is named at: the first too deep token before that
-- place, or what is found there.
pub data IsFault (ts : List Spelled) : ℕ → Fault → Type 0 where
  too_deep : (place i : ℕ) (found : Option Fault) → IsReach ts place found → IsTooDeep ts place i
      → ((j : ℕ) → j < i → IsTooDeep ts place j → ⊥) → IsFault ts i nesting
  wrong : (place : ℕ) (fault : Fault) → IsReach ts place (Some fault)
      → ((j : ℕ) → IsTooDeep ts place j → ⊥) → IsFault ts place fault

-- the place in the text of a token, or of the end of the text
abbrev pub place_of : (end : ℕ) → Option Spelled → ℕ
place_of end None = end
place_of end (Some t) = t.at

-- The first fault of a text with these tokens that has `end` bytes, and its place.
pub record IsFirstFault (ts : List Spelled) (end : ℕ) (at : ℕ) (fault : Fault) : Type 0 where
  pub token : ℕ
  pub found : IsFault ts token fault
  pub place : at ≡ place_of end (slice_get ts token)
