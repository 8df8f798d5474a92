-- What torn writes leave of a gate.
use Rattle.std.proofs.Common.{◌≡◌, ◌≢◌, ◌⊎◌, inl, inr, ℕ, zero, suc, ◌+◌, ◌-◌, ◌<◌, ◌≤◌, List, [], ◌∷◌, ◌++◌, length, take, drop, get_or, min, refl, sym, ◌∙◌, ap, arith, length-append}
use Rattle.std.proofs.lemmas.Bool.{cases_eq}
use Rattle.std.proofs.lemmas.List.{take_at}
use Rattle.porch_edge.specs.Files.{written, padded_to, Shortened, Marred}
use Rattle.porch_edge.specs.Disk.{TornWrite}
use Rattle.porch_gate.specs.declared.gate.Gate.{Gate}
use Rattle.porch_gate.specs.Gates.{IsOpen, OldOrClosed, SameFirst, WholeOrClosed, opened_bytes}

-- what a read of the first byte shows
pub first_is : (old first : List ℕ) (count letter : ℕ) → count ≡ min 1 (length old - 0) → first ≡ take count (drop 0 old) ++ drop count (0 ∷ []) → (count ≢ 1) ⊎ (get_or first 0 0 ≡ letter) → (old ≡ []) ⊎ (take 1 old ≡ letter ∷ [])
first_is [] first count letter n is was = inl refl
first_is (x ∷ old) first count letter n is (inl none) = absurd (none (omega (arith, n)))
first_is (x ∷ old) first count letter n is (inr same) =
    let one : count ≡ 1 = omega (arith, n) in
    let shown : first ≡ x ∷ [] = is ∙ ap (λ (k : ℕ). take k (x ∷ old) ++ drop k (0 ∷ [])) one in
    inr (ap (λ (y : ℕ). y ∷ []) (sym (ap (λ (l : List ℕ). get_or l 0 0) shown) ∙ same))

module _ (gate : Gate) where
  -- a byte in front of the rest
  fronted : (b : ℕ) (ys : List ℕ) (rest : List ℕ) → ys ≡ rest → (b ∷ ys ≡ gate.letter ∷ rest) ⊎ (¬ IsOpen gate (b ∷ ys))
  fronted b ys rest is = elim (cases_eq b gate.letter) [
    | inl same ↦ inl (λ i. same i ∷ is i)
    | inr other ↦ inr (λ o. other (ap (λ (l : List ℕ). get_or l 0 0) o.letter))
  ]

  short_closed : (y : List ℕ) → length y ≤ 1 → ¬ IsOpen gate y
  short_closed y short = λ o. absurd (omega (arith, gate.wide, o.long, short))

  torn_first : (now old y : List ℕ) (b : ℕ) → TornWrite now 0 (b ∷ []) old y → (y ≡ opened_bytes gate old) ⊎ (¬ IsOpen gate y)
  torn_first now old [] b torn = inr (short_closed [] (omega arith))
  torn_first now old (x ∷ y) b torn = fronted x y (drop 1 old) torn.behind

  pub closing : (now old y : List ℕ) → (old ≡ []) ⊎ (take 1 old ≡ gate.letter ∷ []) → TornWrite now 0 (0 ∷ []) old y → OldOrClosed gate old y
  closing now old y (inl none) torn = inr (short_closed y (omega (arith, torn.no_longer, ap length none)))
  closing now [] y (inr letter) torn = absurd (cc letter)
  closing now (x ∷ old) y (inr letter) torn = elim (torn_first now (x ∷ old) y 0 torn) [
    | inl whole ↦ inl (whole ∙ ap (λ (b : ℕ). b ∷ old) (sym (ap (λ (l : List ℕ). get_or l 0 0) letter)))
    | inr closed ↦ inr closed
  ]

  pub opening : (now old y : List ℕ) → TornWrite now 0 (gate.letter ∷ []) old y → WholeOrClosed gate old y
  opening now old y torn = torn_first now old y gate.letter torn

  pub not_yet : (old : List ℕ) → WholeOrClosed gate old old
  not_yet [] = inr (short_closed [] (omega arith))
  not_yet (x ∷ old) = fronted x old old refl

-- writing behind the first byte leaves it
abbrev pub Filling : List ℕ → List ℕ → Type 0
Filling old x = (0 < length x) × SameFirst old x

-- a file with the first byte of one that has some has some
pub some_first : (old x : List ℕ) → 0 < length old → SameFirst old x → 0 < length x
some_first [] x some same = absurd (omega arith)
some_first (a ∷ old) [] some same = absurd (cc same)
some_first (a ∷ old) (b ∷ x) some same = omega arith

first_of : (n : ℕ) (x : List ℕ) → 0 < n → take 1 (take n x) ≡ take 1 x
first_of zero x some = absurd (omega arith)
first_of (suc n) [] some = refl
first_of (suc n) (b ∷ x) some = refl

pub filling_write : (at : ℕ) (bytes now old x y : List ℕ) → 0 < at → 0 < length now → Filling old x → TornWrite now at bytes x y → Filling old y
filling_write at bytes now old x y more long filling torn =
    let n = min at (length now) in
    let some : 0 < n = omega arith in
    (omega (arith, filling.0, torn.no_shorter), sym (first_of n y some) ∙ ap (λ (l : List ℕ). take 1 l) torn.before ∙ first_of n x some ∙ filling.1)

pub filling_cut : (old x y : List ℕ) (n : ℕ) → 0 < n → Filling old x → Shortened n x y → Filling old y
filling_cut old x y n more filling short =
    let some : 0 < length y = omega (arith, filling.0, short.no_shorter) in
    (some, ap (λ (l : List ℕ). take 1 l) short.front ∙ first_of (length y) x some ∙ filling.1)

pub filling_marred : (old x y : List ℕ) (n : ℕ) → 0 < n → Filling old x → Marred n x y → Filling old y
filling_marred old x y n more filling marred =
    (omega (arith, filling.0, marred.no_shorter), sym (first_of n y more) ∙ ap (λ (l : List ℕ). take 1 l) marred.before ∙ first_of n x more ∙ filling.1)

-- and then has these bytes behind it
pub filled_is : (old bytes : List ℕ) → 0 < length old → take (1 + length bytes) (written old 1 bytes) ≡ take 1 old ++ bytes
filled_is [] bytes some = absurd (omega arith)
filled_is (x ∷ old) [] some = refl
filled_is (x ∷ old) (b ∷ bytes) some =
    take_at (take 1 (padded_to 1 (x ∷ old)) ++ (b ∷ bytes)) (drop (1 + length (b ∷ bytes)) (x ∷ old)) (1 + length (b ∷ bytes)) (omega (arith, length-append (x ∷ []) (b ∷ bytes)))
