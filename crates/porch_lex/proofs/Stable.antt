-- A literal is the same where the text ends after it.
use Rattle.std.proofs.Common.{◌≡◌, ℕ, zero, suc, ◌+◌, ◌-◌, ◌<◌, ◌≤◌, ◌==◌, nat_eq, nat_lt, Bool, true, false, if◌then◌else◌, cond, List, [], ◌∷◌, length, take, drop, min, Option, Some, None, unwrap_or, refl, sym, ap, ◌∙◌, arith}
use Rattle.std.specs.List.{starts_with, prefix_len, list_any}
use lib.Pointwise.{pointwise}
use Rattle.std.proofs.lemmas.List.{take-take, drop-take}
use Rattle.porch_lex.specs.Characters.{is_digit_of}
use Rattle.porch_lex.specs.Constants.{number_in}
use Rattle.porch_lex.specs.Literals.{simple_escapes, if_byte, octal_length, hexadecimal_escape, escape_length, counted_more, character_length, constant_end, character_constant_length, string_from, string_more, string_length}
use Rattle.porch_lex.proofs.Lengths.{skipped}
use Rattle.porch_lex.proofs.Within.{IsWithin, escape_within, character_within, string_from_within, found}

pub some_same : (n m : ℕ) → Some n ≡ Some m → n ≡ m
some_same n m e = ap (λ (o : Option ℕ). unwrap_or o 0) e

-- Where it is found here, it is found there.
if_both : (b : Bool) (x y x' y' : Option ℕ) (n : ℕ) → (b ≡ true → x ≡ Some n → x' ≡ Some n) → (b ≡ false → y ≡ Some n → y' ≡ Some n)
    → (if b then x else y) ≡ Some n → (if b then x' else y') ≡ Some n
if_both true x y x' y' n f g h = f refl h
if_both false x y x' y' n f g h = g refl h

-- a length that was counted further
counted_back : (k : ℕ) (o : Option ℕ) (n : ℕ) → counted_more k o ≡ Some n → (m : ℕ) × (o ≡ Some m) × (m + k ≡ n)
counted_back k None n h = cc
counted_back k (Some m) n h = (m, refl, some_same (m + k) n h)

byte_back : (v o n : ℕ) → if_byte v o ≡ Some n → o ≡ n
byte_back v o n h = byte_at (nat_lt 255 v) o n h
  where
    byte_at : (b : Bool) (o n : ℕ) → (if b then None else Some o) ≡ Some n → o ≡ n
    byte_at true o n h = cc
    byte_at false o n h = some_same o n h

-- digits of a text that ends within them, or behind
digits_front : (p : ℕ → Bool) (xs : List ℕ) (j : ℕ) → prefix_len p (take j xs) ≡ min j (prefix_len p xs)
digits_front p [] zero = refl
digits_front p [] (suc j) = min_zero j
  where
    min_zero : (j : ℕ) → 0 ≡ min (suc j) 0
    min_zero j = grind arith
digits_front p (x ∷ xs) zero = min_none (cond (p x) (1 + prefix_len p xs) 0)
  where
    min_none : (n : ℕ) → 0 ≡ min 0 n
    min_none n = grind arith
digits_front p (x ∷ xs) (suc j) = digits_at (p x) j (prefix_len p (take j xs)) (prefix_len p xs) (digits_front p xs j)
  where
    digits_at : (b : Bool) (j m n : ℕ) → m ≡ min j n → cond b (1 + m) 0 ≡ min (suc j) (cond b (1 + n) 0)
    digits_at true j m n h = grind (arith, h)
    digits_at false j m n h = grind arith

digits_same : (p : ℕ → Bool) (xs : List ℕ) (j : ℕ) → prefix_len p xs ≤ j → prefix_len p (take j xs) ≡ prefix_len p xs
digits_same p xs j h = digits_front p xs j ∙ least j (prefix_len p xs) h
  where
    least : (j n : ℕ) → n ≤ j → min j n ≡ n
    least j n h = grind (arith, h)

-- Escapes.

hexadecimal_same : (cs : List ℕ) (j : ℕ) → prefix_len (is_digit_of 16) cs ≤ j → hexadecimal_escape (take j cs) ≡ hexadecimal_escape cs
hexadecimal_same cs j h =
    let count = digits_same (is_digit_of 16) cs j h in
    let digits = take-take (prefix_len (is_digit_of 16) cs) j cs h in
    ap (λ (n : ℕ). if nat_lt 0 n then if_byte (number_in 16 (take n (take j cs))) (n + 1) else None) count
    ∙ ap (λ (xs : List ℕ). if nat_lt 0 (prefix_len (is_digit_of 16) cs) then if_byte (number_in 16 xs) (prefix_len (is_digit_of 16) cs + 1) else None) digits

hexadecimal_stable : (cs : List ℕ) (n j : ℕ) → hexadecimal_escape cs ≡ Some n → n ≤ suc j → hexadecimal_escape (take j cs) ≡ Some n
hexadecimal_stable cs n j h l =
    let size = hexadecimal_back (nat_lt 0 (prefix_len (is_digit_of 16) cs)) _ (prefix_len (is_digit_of 16) cs) n h in
    hexadecimal_same cs j (omega (arith, size, l)) ∙ h
  where
    hexadecimal_back : (b : Bool) (v p n : ℕ) → (if b then if_byte v (p + 1) else None) ≡ Some n → p + 1 ≡ n
    hexadecimal_back true v p n h = byte_back v (p + 1) n h
    hexadecimal_back false v p n h = cc

octal_same : (xs : List ℕ) (j : ℕ) → octal_length xs ≤ j → octal_length (take j xs) ≡ octal_length xs
octal_same xs j h = ap (min 3) (digits_front (is_digit_of 8) xs j) ∙ least_of_three j (prefix_len (is_digit_of 8) xs) h
  where
    least_of_three : (j n : ℕ) → min 3 n ≤ j → min 3 (min j n) ≡ min 3 n
    least_of_three j n h = grind (arith, h)

octal_stable : (xs : List ℕ) (n j : ℕ) → if_byte (number_in 8 (take (octal_length xs) xs)) (octal_length xs) ≡ Some n → n ≤ j
    → if_byte (number_in 8 (take (octal_length (take j xs)) (take j xs))) (octal_length (take j xs)) ≡ Some n
octal_stable xs n j h l =
    let size = byte_back _ (octal_length xs) n h in
    let few : octal_length xs ≤ j = omega (arith, size, l) in
    ap (λ (k : ℕ). if_byte (number_in 8 (take k (take j xs))) k) (octal_same xs j few)
    ∙ ap (λ (ys : List ℕ). if_byte (number_in 8 ys) (octal_length xs)) (take-take (octal_length xs) j xs few)
    ∙ h

none_there : (o : Option ℕ) (n m : ℕ) → IsWithin o m → o ≡ Some n → n ≤ 0 → ⊥
none_there o n m w h l = let some = (found o n m (sym h) w).0 in omega (arith, some, l)

escape_stable : (xs : List ℕ) (n j : ℕ) → escape_length xs ≡ Some n → n ≤ j → escape_length (take j xs) ≡ Some n
escape_stable [] n j h l = cc
escape_stable (c ∷ cs) n zero h l = absurd (none_there (escape_length (c ∷ cs)) n (length (c ∷ cs)) (escape_within (c ∷ cs)) h l)
escape_stable (c ∷ cs) n (suc j) h l =
    if_both (list_any (λ e. e == c) simple_escapes) _ _ _ _ n (λ _ e. e)
    (λ _. if_both (is_digit_of 8 c) _ _ _ _ n (λ _ e. octal_stable (c ∷ cs) n (suc j) e l)
    (λ _. if_both (c == 120) _ None _ None n (λ _ e. hexadecimal_stable cs n j e l) (λ _ e. e))) h

-- Characters and character constants.

pub character_stable : (quote : ℕ) (xs : List ℕ) (n j : ℕ) → character_length quote xs ≡ Some n → n ≤ j → character_length quote (take j xs) ≡ Some n
character_stable quote [] n j h l = cc
character_stable quote (c ∷ cs) n zero h l = absurd (none_there (character_length quote (c ∷ cs)) n (length (c ∷ cs)) (character_within quote (c ∷ cs)) h l)
character_stable quote (c ∷ cs) n (suc j) h l =
    if_both (c == 92) (counted_more 1 (escape_length cs)) _ (counted_more 1 (escape_length (take j cs))) _ n
    (λ _ e.
    let back = counted_back 1 (escape_length cs) n e in
    let size = back.2 in
    let more = escape_stable cs back.0 j back.1 (omega (arith, size, l)) in
    ap (counted_more 1) more ∙ ap Some size)
    (λ _ e. e) h

end_back : (b : Bool) (k n : ℕ) → (if b then Some (k + 1) else None) ≡ Some n → (b ≡ true) × (k + 1 ≡ n)
end_back true k n h = (refl, some_same (k + 1) n h)
end_back false k n h = cc

begins_far : (cs : List ℕ) (k j : ℕ) → k + 1 ≤ j → take 1 (drop k (take j cs)) ≡ take 1 (drop k cs)
begins_far cs k j h =
    let whole : k + (j - k) ≡ j = omega (arith, h) in
    let some : 1 ≤ j - k = omega (arith, h) in
    ap (λ (x : ℕ). take 1 (drop k (take x cs))) (sym whole)
    ∙ ap (take 1) (drop-take k (j - k) cs) ∙ take-take 1 (j - k) (drop k cs) some

end_stable : (o : Option ℕ) (cs : List ℕ) (n j : ℕ) → constant_end o cs ≡ Some n → n ≤ j
    → (k : ℕ) × (o ≡ Some k) × (k + 1 ≡ n) × (constant_end (Some k) (take j cs) ≡ Some n)
end_stable None cs n j h l = cc
end_stable (Some k) cs n j h l =
    let back = end_back (starts_with nat_eq (drop k cs) (39 ∷ [])) k n h in
    let size = back.1 in
    let front = begins_far cs k j (omega (arith, size, l)) in
    (k, refl, back.1, ap (λ (ys : List ℕ). if pointwise nat_eq (39 ∷ []) ys then Some (k + 1) else None) front ∙ h)

pub constant_stable : (cs : List ℕ) (n j : ℕ) → character_constant_length cs ≡ Some n → n ≤ j → character_constant_length (take j cs) ≡ Some n
constant_stable cs n j h l =
    let back = end_stable (character_length 39 cs) cs n j h l in
    let size = back.2 in
    ap (λ (o : Option ℕ). constant_end o (take j cs)) (character_stable 39 cs back.0 j back.1 (omega (arith, size, l))) ∙ back.3

-- String literals.

past : (cs : List ℕ) (k n : ℕ) → string_from cs k ≡ Some n → k < n
past cs k n h =
    let back = counted_back k (string_from (drop k cs) 0) n (sym (skipped cs k) ∙ h) in
    let some = (found (string_from (drop k cs) 0) back.0 (length (drop k cs)) (sym back.1) (string_from_within (drop k cs) 0)).0 in
    let size = back.2 in
    omega (arith, some, size)

more_back : (o : Option ℕ) (go : ℕ → Option ℕ) (n : ℕ) → string_more o go ≡ Some n → (m : ℕ) × (r : ℕ) × (o ≡ Some m) × (go (m - 1) ≡ Some r) × (r + 1 ≡ n)
more_back None go n h = cc
more_back (Some m) go n h = let back = counted_back 1 (go (m - 1)) n h in (m, back.0, refl, back.1, back.2)

string_stable_from : (cs : List ℕ) (k n j : ℕ) → string_from cs k ≡ Some n → n ≤ j → string_from (take j cs) k ≡ Some n
string_stable_from [] k n j h l = cc
string_stable_from (c ∷ cs) k n zero h l = absurd (none_there (string_from (c ∷ cs) k) n (length (c ∷ cs)) (string_from_within (c ∷ cs) k) h l)
string_stable_from (c ∷ cs) (suc k) n (suc j) h l =
    let back = counted_back 1 (string_from cs k) n h in
    let size = back.2 in
    ap (counted_more 1) (string_stable_from cs k back.0 j back.1 (omega (arith, size, l))) ∙ ap Some size
string_stable_from (c ∷ cs) zero n (suc j) h l =
    if_both (c == 34) (Some 1) (string_more (character_length 34 (c ∷ cs)) (string_from cs)) (Some 1)
    (string_more (character_length 34 (c ∷ take j cs)) (string_from (take j cs))) n (λ _ e. e)
    (λ _ e.
    let back = more_back (character_length 34 (c ∷ cs)) (string_from cs) n e in
    let m = back.0 in
    let r = back.1 in
    let size = back.4 in
    let beyond = past cs (m - 1) r back.3 in
    ap (λ (o : Option ℕ). string_more o (string_from (take j cs))) (character_stable 34 (c ∷ cs) m (suc j) back.2 (omega (arith, size, beyond, l)))
    ∙ ap (counted_more 1) (string_stable_from cs (m - 1) r j back.3 (omega (arith, size, l))) ∙ ap Some size) h

pub string_stable : (cs : List ℕ) (n j : ℕ) → string_length cs ≡ Some n → n ≤ j → string_length (take j cs) ≡ Some n
string_stable cs n j h l = string_stable_from cs 0 n j h l
