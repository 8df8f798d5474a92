-- What a text with some tokens is answered with is one thing.
use Rattle.std.proofs.Common.{◌≡◌, ◌≤◌, ◌<◌, ℕ, true, false, zero, suc, List, [], ◌∷◌, map, take, drop, length, All, Option, Some, None, IsTrue, slice_get, refl, sym, subst, ap, ◌∙◌, inl, inr, arith}
use Rattle.std.proofs.Math.Seq.{take-length}
use Rattle.std.proofs.lemmas.Bool.{cases_order}
use Rattle.std.proofs.lemmas.List.{append-nil}
use Rattle.porch_tree.specs.Mirror.{TranslationUnit}
use Rattle.porch_tree.specs.Pieces.{Spelled, Piece, unit_pieces}
use Rattle.porch_tree.specs.Grammar.{Fault, MOST_USES, IsDeepUnit, IsUnit, Begins, IsTooDeep, IsReach, Halts, at_outside, at_stop, at_unit, IsOutside, Stops, at_token, at_end, place_of, inside_at, uses_at, is_outside}
use Rattle.porch_tree.specs.Grammar as grammar
use Rattle.porch_lex.specs.declared.refusal.Rule.{Rule}
use Rattle.porch_lex.specs.declared.refusal.Refusal.{Refusal}
use Rattle.porch_lex.specs.declared.token.Token.{Token}
use Rattle.porch_lex.specs.Words.{spelled}
use Rattle.porch_depth.specs.Told.{IsFaultless}
use Rattle.porch_unit.specs.Units.{unit_of_tokens}
use Rattle.porch_reader.specs.Answers.{rule_of, IsGrammarFault}

nothing_left : {A : Type 0} → (n : ℕ) (xs : List A) → length xs ≤ n → drop n xs ≡ []
nothing_left zero [] h = refl
nothing_left (suc n) [] h = refl
nothing_left zero (x ∷ xs) h = absurd (omega (arith, h))
nothing_left (suc n) (x ∷ xs) h = nothing_left n xs (omega (arith, h))

-- Each place is within the tokens.
outside_past : (ts : List Spelled) (i : ℕ) → IsOutside ts i → length ts ≤ i → ⊥
outside_past ts i o h =
    let none : map (λ t. t.word) (drop i ts) ≡ [] = ap (map (λ t. t.word)) (nothing_left i ts h) in
    let k : false ≡ true = subst (λ ws. IsTrue (is_outside (inside_at (slice_get (unit_pieces o.unit) i)) ws)) none o.outside in
    cc

stops_within : (ts : List Spelled) (i : ℕ) → Stops ts i → i ≤ length ts
stops_within ts i (at_token l b n) = omega arith
stops_within ts i (at_end e b n) = omega arith

halts_past : (ts : List Spelled) (i : ℕ) (f : Option Fault) → Halts ts i f → length ts < i → ⊥
halts_past ts i f (at_outside o) h = outside_past ts i o (omega arith)
halts_past ts i f (at_stop s n) h = let l = stops_within ts i s in omega arith
halts_past ts i f (at_unit e u d) h = omega arith

-- Nothing is found further on.
not_further : (ts : List Spelled) (p q : ℕ) (f g : Option Fault) → Halts ts p f → IsReach ts q g → p < q → ⊥
not_further ts p q f g (at_outside o) r h = r.first p h (inl o)
not_further ts p q f g (at_stop s n) r h = r.first p h (inr s)
not_further ts p q f g (at_unit e u d) r h = halts_past ts q g r.halts (omega arith)

-- At one place one thing is found.
not_both : (ts : List Spelled) (p : ℕ) (u : TranslationUnit) → p ≡ length ts → IsDeepUnit ts u → Stops ts p → ⊥
not_both ts p u e d (at_token l b n) = omega arith
not_both ts p u e d (at_end k b n) = n u d

one_halt : (ts : List Spelled) (p : ℕ) (f g : Option Fault) → Halts ts p f → Halts ts p g → f ≡ g
one_halt ts p f g (at_outside o) (at_outside o') = refl
one_halt ts p f g (at_outside o) (at_stop s n) = absurd (n o)
one_halt ts p f g (at_outside o) (at_unit e u d) = absurd (outside_past ts p o (omega arith))
one_halt ts p f g (at_stop s n) (at_outside o) = absurd (n o)
one_halt ts p f g (at_stop s n) (at_stop s' n') = refl
one_halt ts p f g (at_stop s n) (at_unit e u d) = absurd (not_both ts p u e d s)
one_halt ts p f g (at_unit e u d) (at_outside o) = absurd (outside_past ts p o (omega arith))
one_halt ts p f g (at_unit e u d) (at_stop s n) = absurd (not_both ts p u e d s)
one_halt ts p f g (at_unit e u d) (at_unit e' u' d') = refl

same_place : (ts : List Spelled) (p q : ℕ) (f g : Option Fault) → IsReach ts p f → IsReach ts q g → p ≡ q
same_place ts p q f g a b =
    elim (cases_order p q) [
      | inl e ↦ e
      | inr o ↦ elim o [
        | inl h ↦ absurd (not_further ts p q f g a.halts b h)
        | inr h ↦ absurd (not_further ts q p g f b.halts a h)
      ]
    ]

same_fault : (ts : List Spelled) (p q : ℕ) (f g : Option Fault) → IsReach ts p f → IsReach ts q g → f ≡ g
same_fault ts p q f g a b =
    one_halt ts q f g (subst (λ i. Halts ts i f) (same_place ts p q f g a b) a.halts) b.halts

refusal_is : (r s : Refusal) → r.at ≡ s.at → r.rule ≡ s.rule → r ≡ s
refusal_is r s a b =
    let make : ℕ → Rule → Refusal = λ at rule. record { at = at; rule = rule } in
    ap (λ at. make at r.rule) a ∙ ap (λ rule. make s.at rule) b

-- A token that lies too deep before one place does so before the other.
deep_there : (ts : List Spelled) (p q i : ℕ) (f g : Option Fault) → IsReach ts p f → IsReach ts q g → IsTooDeep ts p i → IsTooDeep ts q i
deep_there ts p q i f g a b d = subst (λ k. IsTooDeep ts k i) (same_place ts p q f g a b) d

token_alone : (ts : List Spelled) (i j : ℕ) (f g : Fault) → grammar.IsFault ts i f → grammar.IsFault ts j g → i ≡ j
token_alone ts i j f g (grammar.too_deep p k o r d n) (grammar.too_deep q m o' r' d' n') =
    elim (cases_order k m) [
      | inl e ↦ e
      | inr h ↦ elim h [
        | inl l ↦ absurd (n' k l (deep_there ts p q k o o' r r' d))
        | inr l ↦ absurd (n m l (deep_there ts q p m o' o r' r d'))
      ]
    ]
token_alone ts i j f g (grammar.too_deep p k o r d n) (grammar.wrong m w r' n') = absurd (n' k (deep_there ts p m k o (Some w) r r' d))
token_alone ts i j f g (grammar.wrong k v r n) (grammar.too_deep q m o' r' d' n') = absurd (n m (deep_there ts q k m o' (Some v) r' r d'))
token_alone ts i j f g (grammar.wrong k v r n) (grammar.wrong m w r' n') = same_place ts k m (Some v) (Some w) r r'

fault_alone : (ts : List Spelled) (i j : ℕ) (f g : Fault) → grammar.IsFault ts i f → grammar.IsFault ts j g → f ≡ g
fault_alone ts i j f g (grammar.too_deep p k o r d n) (grammar.too_deep q m o' r' d' n') = refl
fault_alone ts i j f g (grammar.too_deep p k o r d n) (grammar.wrong m w r' n') = absurd (n' k (deep_there ts p m k o (Some w) r r' d))
fault_alone ts i j f g (grammar.wrong k v r n) (grammar.too_deep q m o' r' d' n') = absurd (n m (deep_there ts q k m o' (Some v) r' r d'))
fault_alone ts i j f g (grammar.wrong k v r n) (grammar.wrong m w r' n') =
    let same : Some v ≡ Some w = same_fault ts k m (Some v) (Some w) r r' in
    cc

shallow_at : (ps : List Piece) (i : ℕ) → All (λ p. p.uses ≤ MOST_USES) ps → MOST_USES < uses_at (slice_get ps i) → ⊥
shallow_at [] i h l = no_less MOST_USES l
  where
    no_less : (n : ℕ) → n < 0 → ⊥
    no_less n l = omega (arith, l)
shallow_at (p ∷ ps) zero h l = let a = h 0 p (search arith) in omega (arith, a, l)
shallow_at (p ∷ ps) (suc i) h l = shallow_at ps i (λ k d m. h (suc k) d (omega (arith, m))) l

-- no token of a unit lies too deep
unit_shallow : (ts : List Spelled) (u : TranslationUnit) (i : ℕ) → IsUnit ts u → IsTooDeep ts (length ts) i → ⊥
unit_shallow ts u i h d =
    let begins : Begins (take (length ts) ts) u = record { rest = []; unit = subst (λ us. IsDeepUnit us u) (sym (append-nil (take (length ts) ts) ∙ take-length ts)) h.unit } in
    shallow_at (unit_pieces u) i h.shallow (d.deep u begins)

unit_faultless : (ts : List Spelled) (i : ℕ) (f : Fault) → IsFaultless ts → grammar.IsFault ts i f → ⊥
unit_faultless ts i f u (grammar.too_deep p k o r d n) = unit_shallow ts u.unit k u.has (deep_there ts p (length ts) k o None r u.reach d)
unit_faultless ts i f u (grammar.wrong k v r n) =
    let same : None ≡ Some v = same_fault ts (length ts) k None (Some v) u.reach r in
    cc

pub grammar_fault_alone : (text : List ℕ) (ts : List Token) (r s : Refusal) → IsGrammarFault text ts r → IsGrammarFault text ts s → r ≡ s
grammar_fault_alone text ts r s a b =
    let token = token_alone (spelled text ts) a.first.token b.first.token a.fault b.fault a.first.found b.first.found in
    let fault = fault_alone (spelled text ts) a.first.token b.first.token a.fault b.fault a.first.found b.first.found in
    refusal_is r s
    (a.first.place ∙ ap (λ i. place_of (length text) (slice_get (spelled text ts) i)) token ∙ sym b.first.place)
    (a.rule ∙ ap rule_of fault ∙ sym b.rule)

-- what the laws of the builder and of the walk say
abbrev pub AreBuilt : Type 0
AreBuilt = (ts : List Spelled) (u : TranslationUnit) → IsDeepUnit ts u → unit_of_tokens ts ≡ Some u

abbrev pub AreRead : Type 0
AreRead = (ts : List Spelled) (u : TranslationUnit) → IsDeepUnit ts u → IsReach ts (length ts) None

same_some : (u v : TranslationUnit) → Some u ≡ Some v → u ≡ v
same_some u v h = cc

pub one_unit : AreBuilt → (ts : List Spelled) (u v : TranslationUnit) → IsUnit ts u → IsUnit ts v → u ≡ v
one_unit b ts u v h k = same_some u v (sym (b ts u h.unit) ∙ b ts v k.unit)

pub unit_or_fault : AreRead → (text : List ℕ) (ts : List Token) (u : TranslationUnit) (r : Refusal) → IsUnit (spelled text ts) u → IsGrammarFault text ts r → ⊥
unit_or_fault a text ts u r h f =
    let faultless : IsFaultless (spelled text ts) = record { unit = u; has = h; reach = a (spelled text ts) u h.unit } in
    unit_faultless (spelled text ts) f.first.token f.fault faultless f.first.found
