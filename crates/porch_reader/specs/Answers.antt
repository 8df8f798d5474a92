-- What a text with some tokens is answered with where these aren't a unit none of whose parts lies too deep.
use Rattle.std.specs.Prelude.{ℕ, ◌≡◌, List, length}
use Rattle.porch_tree.specs.Grammar.{Fault, syntax_fault, nesting, outside, IsFirstFault}
use Rattle.porch_lex.specs.declared.refusal.Rule.{Rule}
use Rattle.porch_lex.specs.declared.refusal.Rule.TheVariants as rule
use Rattle.porch_lex.specs.declared.refusal.Refusal.{Refusal}
use Rattle.porch_lex.specs.declared.refusal.SourceFault.{SourceFault}
use Rattle.porch_lex.specs.declared.refusal.SourceFault.TheVariants.{Refused, NoMemory}
use Rattle.porch_lex.specs.declared.token.Token.{Token}
use Rattle.porch_lex.specs.Words.{spelled}

-- the rule of the text that a fault of its grammar breaks
abbrev pub rule_of : Fault → Rule
rule_of syntax_fault = rule.Syntax
rule_of nesting = rule.Nesting
rule_of outside = rule.Outside

-- The first fault of the grammar in a text with these tokens, with its place.
pub record IsGrammarFault (text : List ℕ) (ts : List Token) (r : Refusal) : Type 0 where
  pub fault : Fault
  pub first : IsFirstFault (spelled text ts) (length text) r.at fault
  pub rule : r.rule ≡ rule_of fault

-- why a text has no tree; memory may be refused at any time
abbrev pub IsFault : List ℕ → List Token → SourceFault → Type 0
IsFault text ts (Refused r) = IsGrammarFault text ts r
IsFault text ts NoMemory = Unit {0}
