-- From what is found in a text to what it is answered with.
use Rattle.std.proofs.Common.{◌≡◌, ◌⊎◌, ℕ, List, length, Option, Some, refl, sym, subst, inl, inr}
use Rattle.std.specs.Prelude.{Result, Ok, Err, IfOk, IfErr, MatchResult, slice_get}
use Rattle.porch_tree.specs.Grammar.{place_of}
use Rattle.porch_lex.specs.declared.refusal.Refusal.{Refusal}
use Rattle.porch_lex.specs.declared.token.Token.{Token}
use Rattle.porch_lex.specs.Tokens.{IsTokens}
use Rattle.porch_lex.specs.Words.{spelled}
use Rattle.porch_depth.specs.declared.fault.FaultyToken.{FaultyToken}
use Rattle.porch_depth.specs.Faults.{fault_of, found_of}
use Rattle.porch_depth.specs.Told.{IsFound}
use Rattle.porch_syntax.specs.declared.tree.Tree.{Tree}
use Rattle.porch_syntax.specs.Tree.{Program, program_of}
use Rattle.porch_syntax.specs.Language.{IsSource}
use Rattle.porch_source.specs.declared.fault.SourceFault.{SourceFault}
use Rattle.porch_source.specs.declared.fault.SourceFault.TheVariants.{Refused, Unbuilt, NoMemory}
use Rattle.porch_source.specs.Comments.{without_comments}
use Rattle.porch_source.specs.Sources.{IsAccepted, IsSourceOf, IsUnbuilt, IsFirstRefusal, in_grammar, IsFault, rule_of}

-- a text without a program of the language that runs
pub unbuilt_for : (text clean : List ℕ) (ts : List Token) (r : Result Tree SourceFault) → clean ≡ without_comments text ts → IsAccepted text ts
    → IfErr r (λ e. (e ≡ NoMemory) ⊎ (e ≡ Unbuilt) × ((p : Program) → IsSource clean p → ⊥)) → IfErr r (IsFault text)
unbuilt_for text clean ts (Ok tree) same a h = tt
unbuilt_for text clean ts (Err e) same a h = elim h [
  | inl k ↦ subst (IsFault text) (sym k) tt
  | inr k ↦ subst (IsFault text) (sym k.0) (let u : IsUnbuilt text = record { tokens = ts; accepted = a; unlike = λ p s. k.1 p (subst (λ x. IsSource x p) (sym same) s) } in u)
]

-- a text with a fault of the grammar
pub faulty_for : (text : List ℕ) (ts : List Token) (r : Refusal) (w : FaultyToken) (o : Option FaultyToken) → IsTokens text ts → o ≡ Some w
    → IsFound (spelled text ts) (found_of o) → r.at ≡ place_of (length text) (slice_get (spelled text ts) w.token) → r.rule ≡ rule_of (fault_of w.fault)
    → IsFirstRefusal text r
faulty_for text ts r w o t e f place rule =
    in_grammar ts t (record { fault = fault_of w.fault; first = record { token = w.token; found = subst (λ x. IsFound (spelled text ts) (found_of x)) e f; place = place }; rule = rule })

-- That a text has one answer.
pub record OneAnswer (text : List ℕ) : Type 0 where
  pub program : (p q : Program) → IsSourceOf text p → IsSourceOf text q → p ≡ q
  pub fault : (r s : Refusal) → IsFirstRefusal text r → IsFirstRefusal text s → r ≡ s
  pub program_or_fault : (p : Program) (r : Refusal) → IsSourceOf text p → IsFirstRefusal text r → ⊥
  pub program_or_unbuilt : (p : Program) → IsSourceOf text p → IsUnbuilt text → ⊥
  pub unbuilt_or_fault : (r : Refusal) → IsUnbuilt text → IsFirstRefusal text r → ⊥

module _ (text : List ℕ) (one : OneAnswer text) where
  pub only_for : (r : Result Tree SourceFault) → IfOk r (λ tree. IsSourceOf text (program_of tree)) → IfErr r (IsFault text)
      → (p : Program) → IsSourceOf text p → MatchResult r (λ tree. program_of tree ≡ p) (λ e. e ≡ NoMemory)
  only_for (Ok tree) a b p s = one.program (program_of tree) p a s
  only_for (Err (Refused r)) a b p s = absurd (one.program_or_fault p r s b)
  only_for (Err Unbuilt) a b p s = absurd (one.program_or_unbuilt p s b)
  only_for (Err NoMemory) a b p s = refl

  pub fault_for : (r : Result Tree SourceFault) → IfOk r (λ tree. IsSourceOf text (program_of tree)) → IfErr r (IsFault text)
      → (x : Refusal) → IsFirstRefusal text x → MatchResult r (λ _. ⊥) (λ e. (e ≡ NoMemory) ⊎ (e ≡ Refused x))
  fault_for (Ok tree) a b x s = one.program_or_fault (program_of tree) x a s
  fault_for (Err (Refused r)) a b x s = inr (let k = one.fault r x b s in cc)
  fault_for (Err Unbuilt) a b x s = absurd (one.unbuilt_or_fault x b s)
  fault_for (Err NoMemory) a b x s = inl refl

  pub built_for : (r : Result Tree SourceFault) → IfOk r (λ tree. IsSourceOf text (program_of tree)) → IfErr r (IsFault text)
      → IsUnbuilt text → MatchResult r (λ _. ⊥) (λ e. (e ≡ NoMemory) ⊎ (e ≡ Unbuilt))
  built_for (Ok tree) a b s = one.program_or_unbuilt (program_of tree) a s
  built_for (Err (Refused r)) a b s = absurd (one.unbuilt_or_fault r s b)
  built_for (Err Unbuilt) a b s = inr refl
  built_for (Err NoMemory) a b s = inl refl
