-- What the lexer knows at each place of a text.
use Rattle.std.proofs.Common.{◌≡◌, ℕ, ◌+◌, ◌<◌, ◌≤◌, Bool, true, false, List, [], ◌∷◌, ◌++◌, length, drop, refl, sym, ap, subst, arith, length-drop, append_assoc, drop-drop}
use Rattle.porch_lex.specs.declared.refusal.Rule.{Rule}
use Rattle.porch_lex.specs.declared.refusal.Refusal.{Refusal}
use Rattle.porch_lex.specs.declared.token.TokenKind.{TokenKind}
use Rattle.porch_lex.specs.declared.token.Token.{Token}
use Rattle.porch_lex.specs.declared.lexeme.Lexeme.{Lexeme}
use Rattle.porch_lex.specs.declared.lexeme.Lexeme.TheVariants as lexeme
use Rattle.porch_lex.specs.Lexemes.{lexeme_at}
use Rattle.porch_lex.specs.Tokens.{source_limit, token_at, refusal_at, Lexes, done, gap, token, Faults, broken, after_gap, after_token}
use Rattle.porch_lex.proofs.Within.{FitsIn, lexeme_fits}

-- The tokens before a place were found: what the text comes to from there, it comes to after them.
pub record Reached (text : List ℕ) (found : List Token) (fresh : Bool) (at : ℕ) : Type 0 where
  pub within : at ≤ length text
  pub tokens : (ts : List Token) → Lexes fresh at (drop at text) ts → Lexes true 0 text (found ++ ts)
  pub faults : (r : Refusal) → Faults fresh at (drop at text) r → Faults true 0 text r

pub begins : (text : List ℕ) → Reached text [] true 0
begins text = record { within = omega arith; tokens = λ ts h. h; faults = λ r h. h }

-- a lexeme that was found
pub fits : (fresh : Bool) (text : List ℕ) (l : Lexeme) → l ≡ lexeme_at fresh text → FitsIn l (length text)
fits fresh text l e = subst (λ (x : Lexeme). FitsIn x (length text)) (sym e) (lexeme_fits fresh text)

further : (text : List ℕ) (at n : ℕ) → at ≤ length text → n ≤ length (drop at text) → at + n ≤ length text
further text at n h k = let e = length-drop at text in omega (arith, e)

pub past_gap : (text : List ℕ) (found : List Token) (fresh : Bool) (at n : ℕ) (next : Bool) → Reached text found fresh at
    → lexeme.Gap n next ≡ lexeme_at fresh (drop at text) → Reached text found next (at + n)
past_gap text found fresh at n next r e =
    let size = fits fresh (drop at text) (lexeme.Gap n next) e in
    let on = drop-drop n at text in
    record {
      within = further text at n r.within size.1;
      tokens = λ ts h. r.tokens ts (gap n next (sym e) (subst (λ (x : List ℕ). Lexes next (at + n) x ts) (sym on) h));
      faults = λ s h. r.faults s (after_gap n next (sym e) (subst (λ (x : List ℕ). Faults next (at + n) x s) (sym on) h));
    }

pub past_token : (text : List ℕ) (found : List Token) (fresh : Bool) (at n : ℕ) (kind : TokenKind) → Reached text found fresh at
    → lexeme.Token kind n ≡ lexeme_at fresh (drop at text) → Reached text (found ++ token_at kind at n ∷ []) false (at + n)
past_token text found fresh at n kind r e =
    let size = fits fresh (drop at text) (lexeme.Token kind n) e in
    let on = drop-drop n at text in
    record {
      within = further text at n r.within size.1;
      tokens = λ ts h.
          subst (λ (x : List Token). Lexes true 0 text x) (sym (append_assoc found (token_at kind at n ∷ []) ts))
          (r.tokens (token_at kind at n ∷ ts) (token kind n (sym e) (subst (λ (x : List ℕ). Lexes false (at + n) x ts) (sym on) h)));
      faults = λ s h. r.faults s (after_token kind n (sym e) (subst (λ (x : List ℕ). Faults false (at + n) x s) (sym on) h));
    }

append_nothing : (xs : List Token) → xs ++ [] ≡ xs
append_nothing [] = refl
append_nothing (x ∷ xs) = ap (λ (ys : List Token). x ∷ ys) (append_nothing xs)

pub finished : (text : List ℕ) (found : List Token) (fresh : Bool) (at : ℕ) → Reached text found fresh at
    → lexeme.End ≡ lexeme_at fresh (drop at text) → Lexes true 0 text found
finished text found fresh at r e =
    subst (λ (x : List Token). Lexes true 0 text x) (append_nothing found) (r.tokens [] (done (sym e)))

pub refused : (text : List ℕ) (found : List Token) (fresh : Bool) (at : ℕ) (rule : Rule) → Reached text found fresh at
    → lexeme.Fault rule ≡ lexeme_at fresh (drop at text) → Faults true 0 text (refusal_at at rule)
refused text found fresh at rule r e = r.faults (refusal_at at rule) (broken rule (sym e))

-- how far a gap or a token takes the lexer
abbrev pub GoesOn : (text : List ℕ) (at n : ℕ) → Type 0
GoesOn text at n = (0 < n) × (at + n ≤ length text)

pub gap_goes_on : (text : List ℕ) (fresh : Bool) (at n : ℕ) (next : Bool) → at ≤ length text → lexeme.Gap n next ≡ lexeme_at fresh (drop at text) → GoesOn text at n
gap_goes_on text fresh at n next h e = let size = fits fresh (drop at text) (lexeme.Gap n next) e in (size.0, further text at n h size.1)

pub token_goes_on : (text : List ℕ) (fresh : Bool) (at n : ℕ) (kind : TokenKind) → at ≤ length text → lexeme.Token kind n ≡ lexeme_at fresh (drop at text) → GoesOn text at n
token_goes_on text fresh at n kind h e = let size = fits fresh (drop at text) (lexeme.Token kind n) e in (size.0, further text at n h size.1)

pub limited : (n : ℕ) → n ≤ source_limit → n ≤ 1048576
limited n h = h
