-- A text has one reading: its tokens, or the first rule that it breaks.
use Rattle.std.proofs.Common.{◌≡◌, ◌<◌, length, ℕ, ◌+◌, ◌⊎◌, inl, inr, Bool, false, List, [], ◌∷◌, drop, Ok, Err, Result, IfOk, IfErr, MatchResult, refl, sym, ap, ◌∙◌, subst, arith}
use Rattle.std.specs.Global.{Vec}
use Rattle.porch_lex.specs.declared.refusal.Rule.{Rule}
use Rattle.porch_lex.specs.declared.refusal.Rule.TheVariants.{TooLarge}
use Rattle.porch_lex.specs.declared.refusal.Refusal.{Refusal}
use Rattle.porch_lex.specs.declared.refusal.SourceFault.{SourceFault}
use Rattle.porch_lex.specs.declared.refusal.SourceFault.TheVariants.{Refused, NoMemory}
use Rattle.porch_lex.specs.declared.token.TokenKind.{TokenKind}
use Rattle.porch_lex.specs.declared.token.TokenKind.TheVariants as kind
use Rattle.porch_lex.specs.declared.token.Token.{Token}
use Rattle.porch_lex.specs.declared.lexeme.Lexeme.{Lexeme}
use Rattle.porch_lex.specs.declared.lexeme.Lexeme.TheVariants as lexeme
use Rattle.porch_lex.specs.Lexemes.{lexeme_at}
use Rattle.porch_lex.specs.Tokens.{source_limit, token_at, refusal_at, Lexes, done, gap, token, Faults, broken, after_gap, after_token, IsTokens, IsFirstLexFault, IsLexFault}

-- the parts of a lexeme
abbrev gap_count : Lexeme → ℕ
gap_count (lexeme.Gap n f) = n
gap_count l = 0

abbrev gap_fresh : Lexeme → Bool
gap_fresh (lexeme.Gap n f) = f
gap_fresh l = false

abbrev token_count : Lexeme → ℕ
token_count (lexeme.Token k n) = n
token_count l = 0

abbrev token_kind : Lexeme → TokenKind
token_kind (lexeme.Token k n) = k
token_kind l = kind.Name

abbrev fault_rule : Lexeme → Rule
fault_rule (lexeme.Fault r) = r
fault_rule l = TooLarge

same_gap : (l : Lexeme) (m n : ℕ) (g f : Bool) → l ≡ lexeme.Gap m g → l ≡ lexeme.Gap n f → (m ≡ n) × (g ≡ f)
same_gap l m n g f e h = (ap gap_count (sym e ∙ h), ap gap_fresh (sym e ∙ h))

same_token : (l : Lexeme) (m n : ℕ) (j k : TokenKind) → l ≡ lexeme.Token j m → l ≡ lexeme.Token k n → (m ≡ n) × (j ≡ k)
same_token l m n j k e h = (ap token_count (sym e ∙ h), ap token_kind (sym e ∙ h))

-- What follows where the lexeme is known.

ends_so : {fresh : Bool} {at : ℕ} {text : List ℕ} {ts : List Token} → Lexes fresh at text ts → lexeme_at fresh text ≡ lexeme.End → ts ≡ []
ends_so (done e) h = refl
ends_so (gap n f e rest) h = let no = sym e ∙ h in cc
ends_so (token k n e rest) h = let no = sym e ∙ h in cc

after_this_gap : {fresh : Bool} {at : ℕ} {text : List ℕ} {ts : List Token} → Lexes fresh at text ts → (n : ℕ) (f : Bool) → lexeme_at fresh text ≡ lexeme.Gap n f → Lexes f (at + n) (drop n text) ts
after_this_gap (done e) n f h = let no = sym e ∙ h in cc
after_this_gap {fresh} {at} {text} {ts} (gap m g e rest) n f h =
    let same = same_gap (lexeme_at fresh text) m n g f e h in
    subst (λ (x : Bool). Lexes x (at + n) (drop n text) ts) same.1 (subst (λ (x : ℕ). Lexes g (at + x) (drop x text) ts) same.0 rest)
after_this_gap (token k m e rest) n f h = let no = sym e ∙ h in cc

abbrev After : (at : ℕ) → (text : List ℕ) → List Token → TokenKind → ℕ → Type 0
After at text ts k n = (us : List Token) × (ts ≡ token_at k at n ∷ us) × Lexes false (at + n) (drop n text) us

after_this_token : {fresh : Bool} {at : ℕ} {text : List ℕ} {ts : List Token} → Lexes fresh at text ts → (k : TokenKind) (n : ℕ) → lexeme_at fresh text ≡ lexeme.Token k n → After at text ts k n
after_this_token (done e) k n h = let no = sym e ∙ h in cc
after_this_token (gap m g e rest) k n h = let no = sym e ∙ h in cc
after_this_token {fresh} {at} {text} (token {ts = us} j m e rest) k n h =
    let same = same_token (lexeme_at fresh text) m n j k e h in
    subst (λ (x : TokenKind). After at text (token_at j at m ∷ us) x n) same.1
    (subst (λ (x : ℕ). After at text (token_at j at m ∷ us) j x) same.0 (us, refl, rest))

no_fault_here : {fresh : Bool} {at : ℕ} {text : List ℕ} {ts : List Token} → Lexes fresh at text ts → (r : Rule) → lexeme_at fresh text ≡ lexeme.Fault r → ⊥
no_fault_here (done e) r h = let no = sym e ∙ h in cc
no_fault_here (gap m g e rest) r h = let no = sym e ∙ h in cc
no_fault_here (token j m e rest) r h = let no = sym e ∙ h in cc

-- One reading, and no fault beside it.

pub one_reading : {fresh : Bool} {at : ℕ} {text : List ℕ} {ts us : List Token} → Lexes fresh at text ts → Lexes fresh at text us → ts ≡ us
one_reading (done e) h = sym (ends_so h e)
one_reading (gap n f e rest) h = one_reading rest (after_this_gap h n f e)
one_reading {at = at} (token k n e rest) h =
    let next = after_this_token h k n e in
    ap (λ (x : List Token). token_at k at n ∷ x) (one_reading rest next.2) ∙ sym next.1

pub no_fault : {fresh : Bool} {at : ℕ} {text : List ℕ} {ts : List Token} {r : Refusal} → Faults fresh at text r → Lexes fresh at text ts → ⊥
no_fault (broken r e) h = no_fault_here h r e
no_fault (after_gap n f e rest) h = no_fault rest (after_this_gap h n f e)
no_fault (after_token k n e rest) h = no_fault rest (after_this_token h k n e).2

-- One first fault.

fault_after_gap : {fresh : Bool} {at : ℕ} {text : List ℕ} {r : Refusal} → Faults fresh at text r → (n : ℕ) (f : Bool) → lexeme_at fresh text ≡ lexeme.Gap n f → Faults f (at + n) (drop n text) r
fault_after_gap (broken r e) n f h = let no = sym e ∙ h in cc
fault_after_gap {fresh} {at} {text} {r} (after_gap m g e rest) n f h =
    let same = same_gap (lexeme_at fresh text) m n g f e h in
    subst (λ (x : Bool). Faults x (at + n) (drop n text) r) same.1 (subst (λ (x : ℕ). Faults g (at + x) (drop x text) r) same.0 rest)
fault_after_gap (after_token k m e rest) n f h = let no = sym e ∙ h in cc

fault_after_token : {fresh : Bool} {at : ℕ} {text : List ℕ} {r : Refusal} → Faults fresh at text r → (k : TokenKind) (n : ℕ) → lexeme_at fresh text ≡ lexeme.Token k n → Faults false (at + n) (drop n text) r
fault_after_token (broken r e) k n h = let no = sym e ∙ h in cc
fault_after_token (after_gap m g e rest) k n h = let no = sym e ∙ h in cc
fault_after_token {fresh} {at} {text} {r} (after_token j m e rest) k n h =
    let same = same_token (lexeme_at fresh text) m n j k e h in
    subst (λ (x : ℕ). Faults false (at + x) (drop x text) r) same.0 rest

fault_so : {fresh : Bool} {at : ℕ} {text : List ℕ} {r : Refusal} → Faults fresh at text r → (q : Rule) → lexeme_at fresh text ≡ lexeme.Fault q → r ≡ refusal_at at q
fault_so {at = at} (broken r e) q h = ap (refusal_at at) (ap fault_rule (sym e ∙ h))
fault_so (after_gap m g e rest) q h = let no = sym e ∙ h in cc
fault_so (after_token j m e rest) q h = let no = sym e ∙ h in cc

one_fault : {fresh : Bool} {at : ℕ} {text : List ℕ} {r s : Refusal} → Faults fresh at text r → Faults fresh at text s → r ≡ s
one_fault (broken q e) h = sym (fault_so h q e)
one_fault (after_gap n f e rest) h = one_fault rest (fault_after_gap h n f e)
one_fault (after_token k n e rest) h = one_fault rest (fault_after_token h k n e)

pub first_fault_alone : (text : List ℕ) (r s : Refusal) → IsFirstLexFault text r → IsFirstLexFault text s → r ≡ s
first_fault_alone text r s (inl f) (inl g) = f.1 ∙ sym g.1
first_fault_alone text r s (inl f) (inr g) = let a = f.0 in let b = g.0 in absurd (omega (arith, a, b))
first_fault_alone text r s (inr f) (inl g) = let a = f.0 in let b = g.0 in absurd (omega (arith, a, b))
first_fault_alone text r s (inr f) (inr g) = one_fault f.1 g.1

pub tokens_or_fault : (text : List ℕ) (ts : List Token) (r : Refusal) → IsTokens text ts → IsFirstLexFault text r → ⊥
tokens_or_fault text ts r t (inl f) = let a = f.0 in let b = t.0 in omega (arith, a, b)
tokens_or_fault text ts r t (inr f) = no_fault f.1 t.1

-- What an answer that is right on its own side says of every reading.

pub only_from : (text : List ℕ) (result : Result (Vec Token) SourceFault) → IfOk result (λ v. IsTokens text v.items) → IfErr result (IsLexFault text)
    → (ts : List Token) → IsTokens text ts → MatchResult result (λ v. v.items ≡ ts) (λ e. e ≡ NoMemory)
only_from text (Ok v) h g ts t = one_reading h.1 t.1
only_from text (Err NoMemory) h g ts t = refl
only_from text (Err (Refused r)) h g ts t = absurd (tokens_or_fault text ts r t g)

pub fault_from : (text : List ℕ) (result : Result (Vec Token) SourceFault) → IfOk result (λ v. IsTokens text v.items) → IfErr result (IsLexFault text)
    → (r : Refusal) → IsFirstLexFault text r → MatchResult result (λ v. ⊥) (λ e. (e ≡ NoMemory) ⊎ (e ≡ Refused r))
fault_from text (Ok v) h g r f = tokens_or_fault text v.items r h f
fault_from text (Err NoMemory) h g r f = inl refl
fault_from text (Err (Refused s)) h g r f = inr (ap Refused (first_fault_alone text s r g f))

pub tokens_alone : (text : List ℕ) (ts us : List Token) → IsTokens text ts → IsTokens text us → ts ≡ us
tokens_alone text ts us h k = one_reading h.1 k.1

pub large : (text : List ℕ) → source_limit < length text → IsFirstLexFault text (refusal_at 0 TooLarge)
large text h = inl (h, refl)
