-- Tokens stand in order in their text.
use Rattle.std.proofs.Common.{◌≡◌, ℕ, ◌+◌, ◌-◌, ◌≤◌, Bool, List, [], ◌∷◌, length, drop, subst, arith, length-drop}
use Rattle.std.proofs.lemmas.List.Sums.{sum_by-cons}
use Rattle.porch_lex.specs.declared.token.Token.{Token}
use Rattle.porch_lex.specs.declared.lexeme.Lexeme.{Lexeme}
use Rattle.porch_lex.specs.declared.lexeme.Lexeme.TheVariants as lexeme
use Rattle.porch_lex.specs.Lexemes.{lexeme_at}
use Rattle.porch_lex.specs.Tokens.{Lexes, done, gap, token, IsTokens, IsRising, bytes_of_tokens}
use Rattle.porch_lex.proofs.Within.{FitsIn, lexeme_fits}

known_fits : (fresh : Bool) (text : List ℕ) (l : Lexeme) → lexeme_at fresh text ≡ l → FitsIn l (length text)
known_fits fresh text l e = subst (λ (x : Lexeme). FitsIn x (length text)) e (lexeme_fits fresh text)

from_before : (low high : ℕ) (ts : List Token) (end : ℕ) → low ≤ high → IsRising high ts end → IsRising low ts end
from_before low high [] end h r = omega (arith, h, r)
from_before low high (t ∷ ts) end h r = let first = r.0 in (omega (arith, h, first), r.1, r.2)

ends_same : (at n size : ℕ) → n ≤ size → at + n + (size - n) ≡ at + size
ends_same at n size h = omega arith

rises : {fresh : Bool} {at : ℕ} {text : List ℕ} {ts : List Token} → Lexes fresh at text ts → IsRising at ts (at + length text)
rises {at = at} {text = text} (done e) = omega arith
rises {fresh} {at} {text} {ts} (gap n next e rest) =
    let size = known_fits fresh text (lexeme.Gap n next) e in
    let long = length-drop n text in
    let few = size.1 in
    let end : at + n + length (drop n text) ≡ at + length text = omega (arith, long, few) in
    from_before at (at + n) ts (at + length text) (omega arith) (subst (λ (x : ℕ). IsRising (at + n) ts x) end (rises rest))
rises {fresh} {at} {text} (token {ts = us} kind n e rest) =
    let size = known_fits fresh text (lexeme.Token kind n) e in
    let long = length-drop n text in
    let some = size.0 in
    let few = size.1 in
    let end : at + n + length (drop n text) ≡ at + length text = omega (arith, long, few) in
    (omega arith, omega (arith, some), subst (λ (x : ℕ). IsRising (at + n) us x) end (rises rest))

pub tokens_rise : (text : List ℕ) (ts : List Token) → IsTokens text ts → IsRising 0 ts (length text)
tokens_rise text ts h = let zero_more : 0 + length text ≡ length text = omega arith in subst (λ (x : ℕ). IsRising 0 ts x) zero_more (rises h.1)

room : (at : ℕ) (ts : List Token) (end : ℕ) → IsRising at ts end → at + length ts ≤ end
room at [] end r = omega (arith, r)
room at (t ∷ ts) end r = let first = r.0 in let some = r.1 in let more = room t.to ts end r.2 in omega (arith, first, some, more)

bytes_room : (at : ℕ) (ts : List Token) (end : ℕ) → IsRising at ts end → at + bytes_of_tokens ts ≤ end
bytes_room at [] end r = omega (arith, r)
bytes_room at (t ∷ ts) end r =
    let one : bytes_of_tokens (t ∷ ts) ≡ (t.to - t.from) + bytes_of_tokens ts = sum_by-cons (λ (x : Token). x.to - x.from) t ts in
    let first = r.0 in let some = r.1 in let more = bytes_room t.to ts end r.2 in omega (arith, one, first, some, more)

pub tokens_are_few : (text : List ℕ) (ts : List Token) → IsTokens text ts → length ts ≤ length text
tokens_are_few text ts h = let e = room 0 ts (length text) (tokens_rise text ts h) in omega (arith, e)

pub tokens_are_small : (text : List ℕ) (ts : List Token) → IsTokens text ts → bytes_of_tokens ts ≤ length text
tokens_are_small text ts h = let e = bytes_room 0 ts (length text) (tokens_rise text ts h) in omega (arith, e)
