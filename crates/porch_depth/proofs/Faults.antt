-- The tokens before the one where something is wrong.
use Rattle.std.proofs.Common.{◌≡◌, ◌≤◌, ℕ, zero, suc, List, [], ◌∷◌, take, length, Option, Some, None, refl, sym, ap, ◌∙◌, arith}
use Rattle.porch_lex.specs.declared.token.Token.{Token}
use Rattle.porch_lex.specs.Words.{spelled_token, spelled}
use Rattle.porch_walk.specs.Walk.{start, Wrong, wrong}
use Rattle.porch_walk.specs.Walks.{IsAt}
use Rattle.porch_depth.specs.declared.along.Reader.{Reader}
use Rattle.porch_walk.specs.Reach.{reach_of}
use Rattle.porch_depth.specs.Levels.{first_deep, nesting_or, first_fault}
use Rattle.porch_depth.specs.inside.Reads.{HasRead, front_of}

pub all_read : (n : ℕ) (ts : List Token) → length ts ≤ n → take n ts ≡ ts
all_read zero [] h = refl
all_read (suc n) [] h = refl
all_read zero (t ∷ ts) h = absurd (omega (arith, h))
all_read (suc n) (t ∷ ts) h = ap (λ q. t ∷ q) (all_read n ts (omega (arith, h)))

taken : (text : List ℕ) (n : ℕ) (ts : List Token) → spelled text (take n ts) ≡ take n (spelled text ts)
taken text zero ts = refl
taken text (suc n) [] = refl
taken text (suc n) (t ∷ ts) = ap (λ q. spelled_token text t ∷ q) (taken text n ts)

whole : (text : List ℕ) (ts : List Token) → spelled text ts ≡ take (length (spelled text ts)) (spelled text ts)
whole text [] = refl
whole text (t ∷ ts) = ap (λ q. spelled_token text t ∷ q) (whole text ts)

-- the tokens of the part that is read
pub front_spelled : (text : List ℕ) (ts : List Token) (w : Option Wrong) → spelled text (front_of ts w) ≡ take (reach_of (spelled text ts) w) (spelled text ts)
front_spelled text ts None = whole text ts
front_spelled text ts (Some w) = taken text w.token ts

-- where nothing has been read
pub has_read_none : (text : List ℕ) (ts : List Token) (r : Reader) → IsAt r.walk start → r.levels.items ≡ [] → r.readings.items ≡ [] → HasRead text ts 0 r
has_read_none text ts r a b c = record {
  stage = start;
  at = a;
  same = rw (b, c) refl;
}

-- the first fault by what was found
pub fault_is : (text : List ℕ) (ts part : List Token) (w : Option Wrong) (found o : Option ℕ) → w ≡ wrong 0 start (spelled text ts) → part ≡ front_of ts w
    → found ≡ first_deep (spelled text part) → found ≡ o → nesting_or o w ≡ first_fault (spelled text ts)
fault_is text ts part w found o e f g k =
    ap (λ q. nesting_or q w) (sym k ∙ g ∙ ap first_deep (ap (spelled text) f ∙ front_spelled text ts w))
    ∙ ap (λ v. nesting_or (first_deep (take (reach_of (spelled text ts) v) (spelled text ts))) v) e
