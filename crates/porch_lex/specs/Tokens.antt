-- Which tokens a text has, and which rule of tokens it breaks first.
use Rattle.std.specs.Prelude.{ℕ, ◌≡◌, ◌+◌, ◌-◌, ◌<◌, ◌≤◌, ◌⊎◌, Bool, true, false, List, [], ◌∷◌, length, drop, sum_by}
use Rattle.porch_lex.specs.declared.refusal.Rule.{Rule}
use Rattle.porch_lex.specs.declared.refusal.Rule.TheVariants.{TooLarge}
use Rattle.porch_lex.specs.declared.refusal.Refusal.{Refusal}
use Rattle.porch_lex.specs.declared.refusal.SourceFault.{SourceFault}
use Rattle.porch_lex.specs.declared.refusal.SourceFault.TheVariants.{Refused, NoMemory}
use Rattle.porch_lex.specs.declared.token.TokenKind.{TokenKind}
use Rattle.porch_lex.specs.declared.token.Token.{Token}
use Rattle.porch_lex.specs.declared.lexeme.Lexeme.TheVariants as lexeme
use Rattle.porch_lex.specs.Lexemes.{lexeme_at}

-- the greatest number of bytes of a source
abbrev pub source_limit : ℕ
source_limit = 1048576

abbrev pub token_at : TokenKind → ℕ → ℕ → Token
token_at kind at n = record { kind = kind; from = at; to = at + n }

abbrev pub refusal_at : ℕ → Rule → Refusal
refusal_at at rule = record { at = at; rule = rule }

-- From a place on, where this text stands, there are gaps and these tokens up to the end.
pub data Lexes : (fresh : Bool) → (at : ℕ) → (text : List ℕ) → List Token → Type 0 where
  done : {fresh : Bool} {at : ℕ} {text : List ℕ} → lexeme_at fresh text ≡ lexeme.End → Lexes fresh at text []
  gap : {fresh : Bool} {at : ℕ} {text : List ℕ} {ts : List Token} (n : ℕ) (next : Bool)
      → lexeme_at fresh text ≡ lexeme.Gap n next → Lexes next (at + n) (drop n text) ts → Lexes fresh at text ts
  token : {fresh : Bool} {at : ℕ} {text : List ℕ} {ts : List Token} (kind : TokenKind) (n : ℕ)
      → lexeme_at fresh text ≡ lexeme.Token kind n → Lexes false (at + n) (drop n text) ts
      → Lexes fresh at text (token_at kind at n ∷ ts)

-- From a place on there are gaps and tokens up to a place where a rule is broken.
pub data Faults : (fresh : Bool) → (at : ℕ) → (text : List ℕ) → Refusal → Type 0 where
  broken : {fresh : Bool} {at : ℕ} {text : List ℕ} (rule : Rule)
      → lexeme_at fresh text ≡ lexeme.Fault rule → Faults fresh at text (refusal_at at rule)
  after_gap : {fresh : Bool} {at : ℕ} {text : List ℕ} {r : Refusal} (n : ℕ) (next : Bool)
      → lexeme_at fresh text ≡ lexeme.Gap n next → Faults next (at + n) (drop n text) r → Faults fresh at text r
  after_token : {fresh : Bool} {at : ℕ} {text : List ℕ} {r : Refusal} (kind : TokenKind) (n : ℕ)
      → lexeme_at fresh text ≡ lexeme.Token kind n → Faults false (at + n) (drop n text) r → Faults fresh at text r

-- the tokens of a text
abbrev pub IsTokens : List ℕ → List Token → Type 0
IsTokens text ts = (length text ≤ source_limit) × Lexes true 0 text ts

-- The first rule that a text breaks: its size comes before its tokens.
abbrev pub IsFirstLexFault : List ℕ → Refusal → Type 0
IsFirstLexFault text r =
    (source_limit < length text) × (r ≡ refusal_at 0 TooLarge)
    ⊎ (length text ≤ source_limit) × Faults true 0 text r

-- want of memory, or the refusal of the first rule that is broken
abbrev pub IsLexFault : List ℕ → SourceFault → Type 0
IsLexFault text NoMemory = Unit {0}
IsLexFault text (Refused r) = IsFirstLexFault text r

-- Each token has a byte at least and ends where the next one begins, or before; the last one ends before a place.
abbrev pub IsRising : (at : ℕ) → List Token → (end : ℕ) → Type 0
IsRising at [] end = at ≤ end
IsRising at (t ∷ ts) end = (at ≤ t.from) × (t.from < t.to) × IsRising t.to ts end

-- how many bytes the tokens have
abbrev pub bytes_of_tokens : List Token → ℕ
bytes_of_tokens = sum_by (λ t. t.to - t.from)
