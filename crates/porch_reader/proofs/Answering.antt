-- From what is found in a text to what it is answered with.
use Rattle.std.proofs.Common.{◌≡◌, ◌⊎◌, ℕ, List, length, Option, Some, None, refl, sym, subst, ap, ◌∙◌, inl, inr}
use Rattle.std.specs.Prelude.{Result, Ok, Err, IfOk, IfErr, MatchResult, slice_get}
use Rattle.std.specs.Option.{option_map}
use Rattle.porch_tree.specs.declared.tree.Tree.{Tree}
use Rattle.porch_tree.specs.Mirror.{TranslationUnit}
use Rattle.porch_tree.specs.Views.{unit_of}
use Rattle.porch_tree.specs.Grammar.{IsUnit, IsDeepUnit, place_of}
use Rattle.porch_lex.specs.declared.refusal.Refusal.{Refusal}
use Rattle.porch_lex.specs.declared.refusal.SourceFault.{SourceFault}
use Rattle.porch_lex.specs.declared.refusal.SourceFault.TheVariants.{Refused, NoMemory}
use Rattle.porch_lex.specs.declared.token.Token.{Token}
use Rattle.porch_lex.specs.Words.{spelled}
use Rattle.porch_depth.specs.declared.fault.FaultyToken.{FaultyToken}
use Rattle.porch_depth.specs.Faults.{fault_of, found_of}
use Rattle.porch_depth.specs.Told.{IsFaultless, IsFound}
use Rattle.porch_reader.specs.Answers.{rule_of, IsGrammarFault, IsFault}

-- a text with a fault of the grammar
pub faulty_for : (text : List ℕ) (ts : List Token) (r : Refusal) (w : FaultyToken) (o : Option FaultyToken) → o ≡ Some w
    → IsFound (spelled text ts) (found_of o) → r.at ≡ place_of (length text) (slice_get (spelled text ts) w.token) → r.rule ≡ rule_of (fault_of w.fault)
    → IsGrammarFault text ts r
faulty_for text ts r w o e f place rule =
    record { fault = fault_of w.fault; first = record { token = w.token; found = subst (λ x. IsFound (spelled text ts) (found_of x)) e f; place = place }; rule = rule }

same_some : (u v : TranslationUnit) → Some u ≡ Some v → u ≡ v
same_some u v h = cc

no_some : (u : TranslationUnit) → ◌≡◌ {A = Option TranslationUnit} None (Some u) → ⊥
no_some u h = cc

-- a tree that was read, of tokens that are a unit
pub unit_for : (text : List ℕ) (ts : List Token) (tree : Tree) (o : Option Tree) → IsFaultless (spelled text ts) → o ≡ Some tree
    → ((u : TranslationUnit) → IsDeepUnit (spelled text ts) u → option_map (unit_of text) o ≡ Some u) → IsUnit (spelled text ts) (unit_of text tree)
unit_for text ts tree o h e b =
    subst (IsUnit (spelled text ts)) (sym (same_some (unit_of text tree) h.unit (sym (ap (option_map (unit_of text)) e) ∙ b h.unit h.has.unit))) h.has

pub tree_for : (text : List ℕ) (ts : List Token) (o : Option Tree) → IsFaultless (spelled text ts) → o ≡ None
    → ((u : TranslationUnit) → IsDeepUnit (spelled text ts) u → option_map (unit_of text) o ≡ Some u) → ⊥
tree_for text ts o h e b = no_some h.unit (sym (ap (option_map (unit_of text)) e) ∙ b h.unit h.has.unit)

-- That a text has one answer.
pub record OneAnswer (text : List ℕ) (ts : List Token) : Type 0 where
  pub unit : (u v : TranslationUnit) → IsUnit (spelled text ts) u → IsUnit (spelled text ts) v → u ≡ v
  pub fault : (r s : Refusal) → IsGrammarFault text ts r → IsGrammarFault text ts s → r ≡ s
  pub unit_or_fault : (u : TranslationUnit) (r : Refusal) → IsUnit (spelled text ts) u → IsGrammarFault text ts r → ⊥

module _ (text : List ℕ) (ts : List Token) (one : OneAnswer text ts) where
  pub only_for : (r : Result Tree SourceFault) → IfOk r (λ tree. IsUnit (spelled text ts) (unit_of text tree)) → IfErr r (IsFault text ts)
      → (u : TranslationUnit) → IsUnit (spelled text ts) u → MatchResult r (λ tree. unit_of text tree ≡ u) (λ e. e ≡ NoMemory)
  only_for (Ok tree) a b u s = one.unit (unit_of text tree) u a s
  only_for (Err (Refused r)) a b u s = absurd (one.unit_or_fault u r s b)
  only_for (Err NoMemory) a b u s = refl

  pub fault_for : (r : Result Tree SourceFault) → IfOk r (λ tree. IsUnit (spelled text ts) (unit_of text tree)) → IfErr r (IsFault text ts)
      → (x : Refusal) → IsGrammarFault text ts x → MatchResult r (λ _. ⊥) (λ e. (e ≡ NoMemory) ⊎ (e ≡ Refused x))
  fault_for (Ok tree) a b x s = one.unit_or_fault (unit_of text tree) x a s
  fault_for (Err (Refused r)) a b x s = inr (let k = one.fault r x b s in cc)
  fault_for (Err NoMemory) a b x s = inl refl
