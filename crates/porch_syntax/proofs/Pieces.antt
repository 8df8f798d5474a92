-- Small facts on the pieces of a text.
use Rattle.std.proofs.Common.{◌≡◌, ℕ, ◌+◌, ◌-◌, ◌*◌, ◌<◌, ◌≤◌, Bool, true, false, not, nat_lt, cond, if◌then◌else◌, List, [], ◌∷◌, ◌++◌, length, get_or, drop, fold, refl, sym, ap, ◌∙◌, arith, add-one, drop-cons, rules, Bor}
use Rattle.std.specs.List.{prefix_len, position_or_len, list_any}
use Rattle.std.specs.Str.{bytes_eq}
use Rattle.std.proofs.lemmas.List.Sums.{prefix_len-le-length}
use Rattle.porch_syntax.specs.declared.lexeme.Lexeme.TheVariants.{Wrong}
use Rattle.porch_syntax.specs.Token.{decimal_of}
use Rattle.porch_syntax.specs.inside.Lexing.{decimal_kind, number_of, with_name, shown}

pub prefix_within : (p : ℕ → Bool) (xs : List ℕ) → prefix_len p xs ≤ length xs
prefix_within p xs = prefix_len-le-length p xs

grows : (cs : List ℕ) (n : ℕ) → n ≤ fold (λ n c. 10 * n + (c - 48)) n cs
grows [] n = omega arith
grows (c ∷ cs) n = let h = grows cs (10 * n + (c - 48)) in omega (arith, h)

not_below : (n : ℕ) → 2147483648 ≤ n → nat_lt n 2147483648 ≡ false
not_below n h = search arith

-- A constant is too great where its first digits are.
pub too_great : (cs : List ℕ) (v i : ℕ) → i < length cs → decimal_of cs ≡ fold (λ n c. 10 * n + (c - 48)) v (drop i cs)
    → 2147483648 ≤ 10 * v + (get_or cs i 0 - 48) → Wrong ≡ decimal_kind cs
too_great cs v i h e great =
    let one : drop i cs ≡ get_or cs i 0 ∷ drop (i + 1) cs = rw (add-one, drop-cons cs i 0) refl in
    let all : decimal_of cs ≡ fold (λ n c. 10 * n + (c - 48)) (10 * v + (get_or cs i 0 - 48)) (drop (i + 1) cs) =
    e ∙ ap (fold (λ n c. 10 * n + (c - 48)) v) one in
    let more = grows (drop (i + 1) cs) (10 * v + (get_or cs i 0 - 48)) in
    let big : 2147483648 ≤ decimal_of cs = omega (arith, all, more) in
    rw (not_below (decimal_of cs) big) refl

-- Names are found among references as among what they refer to.
pub place_shown : (cs : List ℕ) (keys : List (Bor (List ℕ))) → number_of (shown keys) cs ≡ position_or_len (λ k. bytes_eq cs k.now) keys
place_shown cs [] = refl
place_shown cs (k ∷ keys) = ap (λ (n : ℕ). cond (not (bytes_eq cs k.now)) (1 + n) 0) (place_shown cs keys)

pub any_shown : (cs : List ℕ) (keys : List (Bor (List ℕ))) → list_any (bytes_eq cs) (shown keys) ≡ list_any (λ k. bytes_eq cs k.now) keys
any_shown cs [] = refl
any_shown cs (k ∷ keys) = search (rules, any_shown cs keys)

shown_last : (keys : List (Bor (List ℕ))) (k : Bor (List ℕ)) → shown (keys ++ k ∷ []) ≡ shown keys ++ k.now ∷ []
shown_last [] k = refl
shown_last (x ∷ keys) k = ap (λ (xs : List (List ℕ)). x.now ∷ xs) (shown_last keys k)

with_cases : (b : Bool) (keys : List (Bor (List ℕ))) (k : Bor (List ℕ))
    → shown (if b then keys else keys ++ k ∷ []) ≡ (if b then shown keys else shown keys ++ k.now ∷ [])
with_cases true keys k = refl
with_cases false keys k = shown_last keys k

pub with_shown : (keys : List (Bor (List ℕ))) (k : Bor (List ℕ))
    → shown (if list_any (λ x. bytes_eq k.now x.now) keys then keys else keys ++ k ∷ []) ≡ with_name (shown keys) k.now
with_shown keys k =
    with_cases (list_any (λ x. bytes_eq k.now x.now) keys) keys k
    ∙ ap (λ (b : Bool). if b then shown keys else shown keys ++ k.now ∷ []) (sym (any_shown k.now keys))
