-- What writes behind the first byte make of a file's bytes.
use Rattle.std.proofs.Common.{◌≡◌, inl, inr, ℕ, suc, ◌+◌, ◌-◌, ◌<◌, ◌≤◌, List, [], ◌∷◌, ◌++◌, length, take, drop, get_or, replicate, Bool, true, false, ◌==◌, if◌then◌else◌, sym, ◌∙◌, ap, subst, arith, length-append, length-take}
use Rattle.std.proofs.lemmas.Bool.{cases_eq}
use Rattle.std.proofs.lemmas.Bool.Decides.{nat_tests}
use Rattle.std.proofs.lemmas.List.{append-nil, take_at, take-append-le}
use Rattle.porch_edge.specs.Files.{written, padded_to}
use Rattle.porch_gate.specs.declared.gate.Gate.{Gate}
use Rattle.porch_gate.specs.Gates.{closed_bytes, opened_bytes}
use Rattle.porch_store.specs.declared.number.TheConstants.{CHECKPOINT_LETTER}
use Rattle.porch_store.specs.Checkpoints.{IsOpen, whole_file}
use Rattle.porch_store.specs.Stores.{behind_first}

-- the first byte, and some behind it
take_more : (k x : ℕ) (xs : List ℕ) → take (1 + k) (x ∷ xs) ≡ x ∷ take k xs
take_more k x xs = let one : 1 + k ≡ suc k = omega arith in ap (λ (n : ℕ). take n (x ∷ xs)) one

pub behind_length : (k : ℕ) (old : List ℕ) → k < length old → length (behind_first k old) ≡ k
behind_length k [] long = absurd (omega (arith, long))
behind_length k (x ∷ xs) long = omega (arith, long, length-take k xs)

-- a piece behind what was appended
grown : (k x : ℕ) (xs piece rest : List ℕ) → k ≤ length xs → take (k + length piece) ((take k xs ++ piece) ++ rest) ≡ take k xs ++ piece
grown k x xs piece rest long = take_at (take k xs ++ piece) rest (k + length piece) (omega (arith, long, length-append (take k xs) piece, length-take k xs))

wrote : (k x : ℕ) (xs piece : List ℕ) (b : ℕ) → k ≤ length xs → written (x ∷ xs) (1 + k) (b ∷ piece) ≡ x ∷ ((take k xs ++ (b ∷ piece)) ++ drop (1 + k + length (b ∷ piece)) (x ∷ xs))
wrote k x xs piece b long =
    let rest = drop (1 + k + length (b ∷ piece)) (x ∷ xs) in
    let front : take (1 + k) (padded_to (1 + k) (x ∷ xs)) ≡ x ∷ take k xs =
    take-append-le (1 + k) (x ∷ xs) (replicate (1 + k - length (x ∷ xs)) 0) (omega (arith, long)) ∙ take_more k x xs in
    ap (λ (l : List ℕ). l ++ (b ∷ piece) ++ rest) front

pub behind_grown : (k : ℕ) (old piece : List ℕ) → k < length old → behind_first (k + length piece) (written old (1 + k) piece) ≡ behind_first k old ++ piece
behind_grown k [] piece long = absurd (omega (arith, long))
behind_grown k (x ∷ xs) [] long = let same : k + 0 ≡ k = omega arith in ap (λ (n : ℕ). take n xs) same ∙ sym (append-nil (take k xs))
behind_grown k (x ∷ xs) (b ∷ piece) long =
    let le : k ≤ length xs = omega (arith, long) in
    ap (λ (l : List ℕ). behind_first (k + length (b ∷ piece)) l) (wrote k x xs piece b le) ∙ grown k x xs (b ∷ piece) (drop (1 + k + length (b ∷ piece)) (x ∷ xs)) le

pub long_grown : (k : ℕ) (old piece : List ℕ) → k < length old → k + length piece < length (written old (1 + k) piece)
long_grown k [] piece long = absurd (omega (arith, long))
long_grown k (x ∷ xs) [] long = omega (arith, long)
long_grown k (x ∷ xs) (b ∷ piece) long =
    let le : k ≤ length xs = omega (arith, long) in
    let rest = drop (1 + k + length (b ∷ piece)) (x ∷ xs) in
    omega (arith, ap length (wrote k x xs piece b le), length-append (take k xs ++ (b ∷ piece)) rest, length-append (take k xs) (b ∷ piece), length-take k xs, le)

-- a file cut behind what was appended
pub sealed_length : (k : ℕ) (old : List ℕ) → k < length old → length (take (1 + k) old) ≡ 1 + k
sealed_length k old long = omega (arith, long, length-take (1 + k) old)

pub not_open : (x : List ℕ) → ¬ (take 1 x ≡ CHECKPOINT_LETTER ∷ []) → ¬ IsOpen x
not_open x none = λ o. none o.letter

module _ (gate : Gate) (letter : gate.letter ≡ CHECKPOINT_LETTER) where
  pub opened_whole : (k : ℕ) (old bytes : List ℕ) → k < length old → behind_first k old ≡ bytes → opened_bytes gate (take (1 + k) old) ≡ whole_file bytes
  opened_whole k [] bytes long is = absurd (omega (arith, long))
  opened_whole k (x ∷ xs) bytes long is = ap (λ (l : List ℕ). gate.letter ∷ drop 1 l) (take_more k x xs) ∙ ap (λ (b : ℕ). b ∷ take k xs) letter ∙ ap (λ (l : List ℕ). CHECKPOINT_LETTER ∷ l) is

  -- a file that was closed has a first byte, which isn't the letter
  pub closed_first : (old : List ℕ) → (0 < length (closed_bytes gate old)) × (¬ (take 1 (closed_bytes gate old) ≡ CHECKPOINT_LETTER ∷ []))
  closed_first [] = (omega arith, λ same. gate.no_zero (letter ∙ sym (ap (λ (l : List ℕ). get_or l 0 0) same)))
  closed_first (x ∷ old) =
      let P : List ℕ → Type 0 = λ y. (0 < length y) × (¬ (take 1 y ≡ CHECKPOINT_LETTER ∷ [])) in
      let pick : Bool → List ℕ = λ b. if b then 0 ∷ old else x ∷ old in
      elim (cases_eq x gate.letter) [
        | inl same ↦ let is_true : (x == gate.letter) ≡ true = grind (arith, nat_tests) in
            subst P (sym (ap pick is_true)) (omega arith, λ front. gate.no_zero (letter ∙ sym (ap (λ (l : List ℕ). get_or l 0 0) front)))
        | inr other ↦ let is_false : (x == gate.letter) ≡ false = grind (arith, nat_tests) in
            subst P (sym (ap pick is_false)) (omega arith, λ front. other (ap (λ (l : List ℕ). get_or l 0 0) front ∙ sym letter))
      ]
