-- Numbers, from digits.
use Rattle.std.proofs.Common.{◌≡◌, ◌≤◌, ◌<◌, ◌+◌, ◌-◌, ◌*◌, ◌^◌, ℕ, List, [], ◌∷◌, Bool, true, false, ◌&&◌, fold, refl, sym, length, arith, ◌⊎◌, inl, inr}
use Rattle.std.proofs.lemmas.Bool.Decides.{nat_tests}
use Rattle.std.specs.Prelude.{nat_le, if◌then◌else◌, Some, None}
use Rattle.std.specs.declared.option.Option.{Option}
use Rattle.std.specs.List.{list_all}
use Rattle.porch_words.specs.declared.value.TheConstants.{MOST_BEFORE_DIGIT, MOST_DIGITS}
use Rattle.porch_words.specs.Spelling.{is_digit, decimal_of}
use Rattle.porch_words.specs.inside.Reading.{value_behind, within, number_of}

-- one digit more
abbrev next : ℕ → ℕ → ℕ
next n c = 10 * n + (c - 48)

grows : (n : ℕ) (ds : List ℕ) → n ≤ fold next n ds
grows n [] = omega arith
grows n (d ∷ ds) = let more = grows (next n d) ds in omega arith

false_true : false ≡ true → ⊥
false_true e = cc

same_some : (m n : ℕ) → Some m ≡ Some n → m ≡ n
same_some m n e = cc

none_some : (n : ℕ) → let o : Option ℕ = None in o ≡ Some n → ⊥
none_some n e = cc

is_by_tests : (a b : Bool) (r : Bool) (o : Option ℕ) (t v : ℕ) → (o ≡ Some t → (r ≡ true) × (v ≡ t)) → (if a && b then o else None) ≡ Some t → ((a && r) ≡ true) × (v ≡ t)
is_by_tests true true r o t v h e = h e
is_by_tests true false r o t v h e = absurd (none_some t e)
is_by_tests false b r o t v h e = absurd (none_some t e)

-- what digits stand for where they are read through
value_is : (n : ℕ) (ds : List ℕ) (t : ℕ) → value_behind n ds ≡ Some t → (list_all is_digit ds ≡ true) × (fold next n ds ≡ t)
value_is n [] t h = (refl, same_some n t h)
value_is n (d ∷ ds) t h =
    is_by_tests (is_digit d) (nat_le n MOST_BEFORE_DIGIT) (list_all is_digit ds) (value_behind (next n d) ds) t (fold next (next n d) ds) (λ e. value_is (next n d) ds t e) h

reads_by_tests : (a b r : Bool) (o : Option ℕ) (v : ℕ) → (a && r) ≡ true → b ≡ true → (r ≡ true → o ≡ Some v) → (if a && b then o else None) ≡ Some v
reads_by_tests true true r o v e s h = h e
reads_by_tests true false r o v e s h = absurd (false_true s)
reads_by_tests false b r o v e s h = absurd (false_true e)

-- and they are, where they are digits of a number that is not too large
value_reads : (n : ℕ) (ds : List ℕ) → list_all is_digit ds ≡ true → fold next n ds ≤ 2 ^ 62 → value_behind n ds ≡ Some (fold next n ds)
value_reads n [] h k = refl
value_reads n (d ∷ ds) h k =
    let more = grows (next n d) ds in
    let small : nat_le n MOST_BEFORE_DIGIT ≡ true = grind (arith, nat_tests) in
    reads_by_tests (is_digit d) (nat_le n MOST_BEFORE_DIGIT) (list_all is_digit ds) (value_behind (next n d) ds) (fold next (next n d) ds) h small (λ e. value_reads (next n d) ds e k)

-- a number above the greatest one is none
beyond : (least most n : ℕ) → most < n → within least most (Some n) ≡ None
beyond least most n h = let out : nat_le n most ≡ false = grind (arith, nat_tests) in by_tests (nat_le least n) (nat_le n most) out
  where
    by_tests : (a b : Bool) → b ≡ false → (if a && b then Some n else None) ≡ None
    by_tests true true e = absurd (false_true (sym e))
    by_tests true false e = refl
    by_tests false b e = refl

-- what is read, and whether these are digits: the same number either way
by_value : (least most v : ℕ) (o : Option ℕ) (b : Bool) → most ≤ 2 ^ 62 → ((t : ℕ) → o ≡ Some t → (b ≡ true) × (v ≡ t)) → (b ≡ true → v ≤ 2 ^ 62 → o ≡ Some v) → within least most o ≡ (if b then within least most (Some v) else None)
by_value least most v (Some t) b low is reads = let h = is t refl in rw (h.0, h.1) refl
by_value least most v None true low is reads = sym (beyond least most v (grind (arith, λ (h : v ≤ 2 ^ 62). none_some v (reads refl h))))
by_value least most v None false low is reads = refl

-- the code's number is the definition's
pub number_is : (least most : ℕ) (word : List ℕ) → most ≤ 2 ^ 62 → 1 ≤ length word → length word ≤ MOST_DIGITS → within least most (value_behind 0 word) ≡ number_of least most word
unfolding number_of
number_is least most word low some short =
    let one : nat_le 1 (length word) ≡ true = grind (arith, nat_tests) in
    let few : nat_le (length word) MOST_DIGITS ≡ true = grind (arith, nat_tests) in
    rw (one, few) (by_value least most (decimal_of word) (value_behind 0 word) (list_all is_digit word) low (λ t e. value_is 0 word t e) (λ d k. value_reads 0 word d k))

no_number : (least most : ℕ) (word : List ℕ) (a b c : Bool) → (a ≡ false) ⊎ (b ≡ false) → (if (a && b) && c then within least most (Some (decimal_of word)) else None) ≡ None
no_number least most word true true c (inl e) = absurd (false_true (sym e))
no_number least most word true true c (inr e) = absurd (false_true (sym e))
no_number least most word true false c h = refl
no_number least most word false b c h = refl

-- a word of no digits or of too many is none
pub number_is_none : (least most : ℕ) (word : List ℕ) → (length word ≡ 0) ⊎ (MOST_DIGITS < length word) → number_of least most word ≡ None
unfolding number_of
number_is_none least most word h =
    no_number least most word (nat_le 1 (length word)) (nat_le (length word) MOST_DIGITS) (list_all is_digit word) (elim h [ inl z ↦ inl (grind (arith, nat_tests)) | inr l ↦ inr (grind (arith, nat_tests)) ])
