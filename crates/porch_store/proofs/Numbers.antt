-- The number that is read from an open checkpoint file.
use Rattle.std.proofs.Common.{◌≡◌, ℕ, ◌-◌, ◌≤◌, List, [], ◌∷◌, ◌++◌, length, take, drop, min, refl, ◌∙◌, ap, arith, length-drop}
use Rattle.byteorder.specs.Endian.{big_number}
use Rattle.porch_store.specs.Checkpoints.{number_of}

-- eight bytes are enough
first_eight : (xs ys : List ℕ) → 8 ≤ length xs → big_number 8 (take 8 xs ++ ys) ≡ big_number 8 xs
first_eight (a ∷ b ∷ c ∷ d ∷ e ∷ f ∷ g ∷ h ∷ xs) ys le = refl
first_eight (a ∷ b ∷ c ∷ d ∷ e ∷ f ∷ g ∷ []) ys le = absurd (omega (arith, le))
first_eight (a ∷ b ∷ c ∷ d ∷ e ∷ f ∷ []) ys le = absurd (omega (arith, le))
first_eight (a ∷ b ∷ c ∷ d ∷ e ∷ []) ys le = absurd (omega (arith, le))
first_eight (a ∷ b ∷ c ∷ d ∷ []) ys le = absurd (omega (arith, le))
first_eight (a ∷ b ∷ c ∷ []) ys le = absurd (omega (arith, le))
first_eight (a ∷ b ∷ []) ys le = absurd (omega (arith, le))
first_eight (a ∷ []) ys le = absurd (omega (arith, le))
first_eight [] ys le = absurd (omega (arith, le))

-- a read into eight bytes at the number's place gives the number
pub number_read : (bytes before after : List ℕ) (n : ℕ) → 128 ≤ length bytes → length before ≡ 8 → n ≡ min (length before) (length bytes - 16) → after ≡ take n (drop 16 bytes) ++ drop n before → big_number 8 after ≡ number_of bytes
number_read bytes before after n long eight count is =
    let all : n ≡ 8 = omega (arith, long, eight, count) in
    ap (λ (l : List ℕ). big_number 8 l) (is ∙ ap (λ (k : ℕ). take k (drop 16 bytes) ++ drop n before) all)
    ∙ first_eight (drop 16 bytes) (drop n before) (omega (arith, long, length-drop 16 bytes))
