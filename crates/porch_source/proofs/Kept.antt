-- What stays of a text without its comments and includes.
use Rattle.std.proofs.Common.{◌≡◌, ◌≤◌, ◌+◌, ◌-◌, ℕ, List, [], ◌∷◌, ◌++◌, map, take, drop, length, refl, sym, ap, subst, ◌∙◌, inl, inr, arith}
use Rattle.std.proofs.Math.Seq.{drop-append_seam, take-append_seam}
use Rattle.std.proofs.lemmas.List.{take-append-drop, length-take-le, length-drop, length-map, drop-drop}
use Rattle.porch_tree.specs.Pieces.{Spelled}
use Rattle.porch_lex.specs.declared.token.Token.{Token}
use Rattle.porch_lex.specs.Tokens.{IsRising}
use Rattle.porch_lex.specs.Words.{bytes_between, kind_word, spelled_token}
use Rattle.porch_source.specs.Comments.{blank_of, blanks, KeepsPlaces, without_comments_from}

-- A text from one place on, as its bytes up to another place and the rest.

behind : (text : List ℕ) (a b : ℕ) → a ≤ b → drop (b - a) (drop a text) ≡ drop b text
behind text a b h =
    let e : a + (b - a) ≡ b = omega arith in
    drop-drop (b - a) a text ∙ ap (λ n. drop n text) e

piece : (text : List ℕ) (a b : ℕ) → a ≤ b → drop a text ≡ bytes_between text a b ++ drop b text
piece text a b h =
    sym (take-append-drop (b - a) (drop a text)) ∙ ap (λ xs. bytes_between text a b ++ xs) (behind text a b h)

size : (text : List ℕ) (a b : ℕ) → a ≤ b → b ≤ length text → length (bytes_between text a b) ≡ b - a
size text a b h k = length-take-le (b - a) (drop a text) (let l = length-drop a text in omega (arith, l))

blank_size : (text : List ℕ) (a b : ℕ) → a ≤ b → b ≤ length text → length (blanks (bytes_between text a b)) ≡ b - a
blank_size text a b h k = length-map (bytes_between text a b) blank_of ∙ size text a b h k

rising_end : (at : ℕ) (ts : List Token) (end : ℕ) → IsRising at ts end → at ≤ end
rising_end at [] end r = r
rising_end at (t ∷ ts) end r = let l = rising_end t.to ts end r.2 in let a = r.0 in let b = r.1 in omega arith

-- Byte by byte.

same_kept : (xs : List ℕ) → KeepsPlaces xs xs
same_kept [] = tt
same_kept (x ∷ xs) = (inl refl, same_kept xs)

blanks_kept : (xs : List ℕ) → KeepsPlaces xs (blanks xs)
blanks_kept [] = tt
blanks_kept (x ∷ xs) = (inr refl, blanks_kept xs)

both_kept : (xs ys us vs : List ℕ) → KeepsPlaces xs ys → KeepsPlaces us vs → KeepsPlaces (xs ++ us) (ys ++ vs)
both_kept [] [] us vs h k = k
both_kept (x ∷ xs) (y ∷ ys) us vs h k = (h.0, both_kept xs ys us vs h.1 k)
both_kept [] (y ∷ ys) us vs h k = absurd h
both_kept (x ∷ xs) [] us vs h k = absurd h

pub places_kept : (text : List ℕ) (ts : List Token) (at : ℕ) → IsRising at ts (length text) → KeepsPlaces (drop at text) (without_comments_from at text ts)
places_kept text [] at r = blanks_kept (drop at text)
places_kept text (t ∷ ts) at r =
    let a = bytes_between text at t.from in
    let b = bytes_between text t.from t.to in
    let starts = r.0 in
    let some = r.1 in
    let whole : drop at text ≡ a ++ (b ++ drop t.to text) = piece text at t.from starts ∙ ap (λ xs. a ++ xs) (piece text t.from t.to (omega arith)) in
    let rest = places_kept text ts t.to r.2 in
    let both = both_kept a (blanks a) (b ++ drop t.to text) (b ++ without_comments_from t.to text ts) (blanks_kept a)
    (both_kept b b (drop t.to text) (without_comments_from t.to text ts) (same_kept b) rest) in
    subst (λ xs. KeepsPlaces xs (without_comments_from at text (t ∷ ts))) (sym whole) both

-- Token by token, in a text that from a place on is so.

seam : (xs ys : List ℕ) (n : ℕ) → length xs ≡ n → drop n (xs ++ ys) ≡ ys
seam xs ys n e = ap (λ k. drop k (xs ++ ys)) (sym e) ∙ drop-append_seam xs ys

front : (xs ys : List ℕ) (n : ℕ) → length xs ≡ n → take n (xs ++ ys) ≡ xs
front xs ys n e = ap (λ k. take k (xs ++ ys)) (sym e) ∙ take-append_seam xs ys

one_kept : (text w : List ℕ) (t : Token) → bytes_between w t.from t.to ≡ bytes_between text t.from t.to → spelled_token w t ≡ spelled_token text t
one_kept text w t e =
    let make : List ℕ → Spelled = λ bytes. record { word = kind_word t.kind; at = t.from; bytes = bytes } in
    ap make e

pub tokens_kept : (text w : List ℕ) (ts : List Token) (at : ℕ) → IsRising at ts (length text) → drop at w ≡ without_comments_from at text ts
    → map (spelled_token w) ts ≡ map (spelled_token text) ts
tokens_kept text w [] at r e = refl
tokens_kept text w (t ∷ ts) at r e =
    let a = bytes_between text at t.from in
    let b = bytes_between text t.from t.to in
    let starts = r.0 in
    let some = r.1 in
    let ends = rising_end t.to ts (length text) r.2 in
    let here : drop t.from w ≡ b ++ without_comments_from t.to text ts =
    sym (behind w at t.from starts) ∙ ap (drop (t.from - at)) e
    ∙ seam (blanks a) (b ++ without_comments_from t.to text ts) (t.from - at) (blank_size text at t.from starts (omega arith)) in
    let long = size text t.from t.to (omega arith) ends in
    let next : drop t.to w ≡ without_comments_from t.to text ts =
    sym (behind w t.from t.to (omega arith)) ∙ ap (drop (t.to - t.from)) here
    ∙ seam b (without_comments_from t.to text ts) (t.to - t.from) long in
    let bytes : bytes_between w t.from t.to ≡ b = ap (take (t.to - t.from)) here ∙ front b (without_comments_from t.to text ts) (t.to - t.from) long in
    let first = one_kept text w t bytes in
    let rest = tokens_kept text w ts t.to r.2 next in
    ap (λ x. x ∷ map (spelled_token w) ts) first ∙ ap (λ xs. spelled_token text t ∷ xs) rest
