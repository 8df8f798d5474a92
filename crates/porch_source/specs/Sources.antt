-- Which program a text is the source of, and what every other text is refused with.
use Rattle.std.specs.Prelude.{ℕ, ◌≡◌, List, length}
use Rattle.porch_tree.specs.Grammar.{Fault, syntax_fault, nesting, outside, IsFirstFault}
use Rattle.porch_lex.specs.declared.refusal.Rule.{Rule}
use Rattle.porch_lex.specs.declared.refusal.Rule.TheVariants as rule
use Rattle.porch_lex.specs.declared.refusal.Refusal.{Refusal}
use Rattle.porch_lex.specs.declared.token.Token.{Token}
use Rattle.porch_lex.specs.Tokens.{IsTokens, IsFirstLexFault}
use Rattle.porch_lex.specs.Words.{spelled}
use Rattle.porch_depth.specs.Told.{IsFaultless}
use Rattle.porch_syntax.specs.Tree.{Program}
use Rattle.porch_syntax.specs.Language.{IsSource}
use Rattle.porch_source.specs.declared.fault.SourceFault.{SourceFault}
use Rattle.porch_source.specs.declared.fault.SourceFault.TheVariants.{Refused, Unbuilt, NoMemory}
use Rattle.porch_source.specs.Comments.{without_comments}

-- The text breaks no rule of tokens, these are its tokens, and they are a unit of the grammar none of which
-- lies too deep.
pub record IsAccepted (text : List ℕ) (ts : List Token) : Type 0 where
  pub tokens : IsTokens text ts
  pub unit : IsFaultless (spelled text ts)

-- The text is the source of this program: it is accepted, and without its comments and includes it is the
-- program in the part of the language that runs.
pub record IsSourceOf (text : List ℕ) (p : Program) : Type 0 where
  pub tokens : List Token
  pub accepted : IsAccepted text tokens
  pub program : IsSource (without_comments text tokens) p

-- The text is accepted, and isn't in the part of the language that runs yet.
pub record IsUnbuilt (text : List ℕ) : Type 0 where
  pub tokens : List Token
  pub accepted : IsAccepted text tokens
  pub unlike : (p : Program) → IsSource (without_comments text tokens) p → ⊥

-- the rule of the text that a fault of its grammar breaks
abbrev pub rule_of : Fault → Rule
rule_of syntax_fault = rule.Syntax
rule_of nesting = rule.Nesting
rule_of outside = rule.Outside

-- The first fault of the grammar in a text with these tokens.
pub record IsGrammarFault (text : List ℕ) (ts : List Token) (r : Refusal) : Type 0 where
  pub fault : Fault
  pub first : IsFirstFault (spelled text ts) (length text) r.at fault
  pub rule : r.rule ≡ rule_of fault

-- The first rule that a text breaks: its size comes before its tokens, and all of these before its grammar.
pub data IsFirstRefusal (text : List ℕ) (r : Refusal) : Type 0 where
  in_tokens : IsFirstLexFault text r → IsFirstRefusal text r
  in_grammar : (ts : List Token) → IsTokens text ts → IsGrammarFault text ts r → IsFirstRefusal text r

-- why a text has no program; memory may be refused at any time
abbrev pub IsFault : List ℕ → SourceFault → Type 0
IsFault text (Refused r) = IsFirstRefusal text r
IsFault text Unbuilt = IsUnbuilt text
IsFault text NoMemory = Unit {0}
