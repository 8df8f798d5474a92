-- One byte in some places of others.
use Rattle.std.proofs.Common.{◌≡◌, ℕ, zero, suc, ◌+◌, ◌<◌, ◌≤◌, ◌||◌, Bool, true, false, List, [], ◌∷◌, length, take, drop, get_or, refl, ◌∙◌, ap, arith, if◌then◌else◌}
use Rattle.porch_edge.specs.Picks.{painted}

module _ (b : ℕ) where
  pub painted_agree : (p q : ℕ → Bool) (k : ℕ) (xs : List ℕ) → ((j : ℕ) → k ≤ j → j < k + length xs → p j ≡ q j) → painted p b k xs ≡ painted q b k xs
  painted_agree p q k [] same = refl
  painted_agree p q k (x ∷ xs) same = λ i. (if same k (omega arith) (omega arith) i then b else x) ∷ painted_agree p q (suc k) xs (λ j ge lt. same j (omega arith) (omega arith)) i

  pub painted_none : (k : ℕ) (xs : List ℕ) → painted (λ _. false) b k xs ≡ xs
  painted_none k [] = refl
  painted_none k (x ∷ xs) = ap (λ (l : List ℕ). x ∷ l) (painted_none (suc k) xs)

  twice : (p q : Bool) (x : ℕ) → (if q then b else (if p then b else x)) ≡ (if p || q then b else x)
  twice true true x = refl
  twice true false x = refl
  twice false true x = refl
  twice false false x = refl

  pub painted_twice : (p q : ℕ → Bool) (k : ℕ) (xs : List ℕ) → painted q b k (painted p b k xs) ≡ painted (λ j. p j || q j) b k xs
  painted_twice p q k [] = refl
  painted_twice p q k (x ∷ xs) = λ i. twice (p k) (q k) x i ∷ painted_twice p q (suc k) xs i

  pub length-painted : (p : ℕ → Bool) (k : ℕ) (xs : List ℕ) → length (painted p b k xs) ≡ length xs
  length-painted p k [] = refl
  length-painted p k (x ∷ xs) = omega (arith, length-painted p (suc k) xs)

  pub take-painted : (p : ℕ → Bool) (n k : ℕ) (xs : List ℕ) → take n (painted p b k xs) ≡ painted p b k (take n xs)
  take-painted p zero k xs = refl
  take-painted p (suc n) k [] = refl
  take-painted p (suc n) k (x ∷ xs) = ap (λ (l : List ℕ). (if p k then b else x) ∷ l) (take-painted p n (suc k) xs)

  pub drop-painted : (p : ℕ → Bool) (n k m : ℕ) (xs : List ℕ) → m ≡ k + n → drop n (painted p b k xs) ≡ painted p b m (drop n xs)
  drop-painted p zero k m xs is = let same : k ≡ m = omega arith in ap (λ (j : ℕ). painted p b j xs) same
  drop-painted p (suc n) k m [] is = refl
  drop-painted p (suc n) k m (x ∷ xs) is = drop-painted p n (suc k) m xs (omega arith)

  -- place by place
  pub get-painted : (p : ℕ → Bool) (k i : ℕ) (xs : List ℕ) → i < length xs → get_or (painted p b k xs) i 0 ≡ (if p (k + i) then b else get_or xs i 0)
  get-painted p k i [] lt = absurd (omega arith)
  get-painted p k zero (x ∷ xs) lt = let same : k ≡ k + 0 = omega arith in ap (λ (j : ℕ). if p j then b else x) same
  get-painted p k (suc i) (x ∷ xs) lt = let same : suc k + i ≡ k + suc i = omega arith in get-painted p (suc k) i xs (omega arith) ∙ ap (λ (j : ℕ). if p j then b else get_or xs i 0) same

  pub painted_is : (p : ℕ → Bool) (k : ℕ) (xs ys : List ℕ) → length ys ≡ length xs → ((i : ℕ) → i < length xs → get_or ys i 0 ≡ (if p (k + i) then b else get_or xs i 0)) → ys ≡ painted p b k xs
  painted_is p k [] [] len each = refl
  painted_is p k [] (y ∷ ys) len each = absurd (omega (arith, len))
  painted_is p k (x ∷ xs) [] len each = absurd (omega (arith, len))
  painted_is p k (x ∷ xs) (y ∷ ys) len each =
      let first : k + 0 ≡ k = omega arith in
      λ i. (each 0 (omega arith) ∙ ap (λ (j : ℕ). if p j then b else x) first) i
      ∷ painted_is p (suc k) xs ys (omega (arith, len)) (λ j lt. let same : k + suc j ≡ suc k + j = omega arith in each (suc j) (omega arith) ∙ ap (λ (n : ℕ). if p n then b else get_or xs j 0) same) i
