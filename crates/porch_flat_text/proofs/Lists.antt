-- Lists of arguments, one at a time.
use Rattle.std.proofs.Common.{◌≡◌, ◌⊎◌, inl, inr, ℕ, zero, suc, ◌+◌, ◌-◌, ◌<◌, List, [], ◌∷◌, ◌++◌, length, refl, sym, ◌∙◌, arith, ap, append_assoc, append-nil}
use Rattle.porch_flat_text.specs.inside.Cuts.{each_in, first, rest}

pub each_none : {X : Type 0} (f : List ℕ → X) (k : ℕ) → each_in f k [] ≡ []
each_none f zero = refl
each_none f (suc k) = refl

pub each_at_end : {X : Type 0} (f : List ℕ → X) (k : ℕ) (s : List ℕ) → length s ≡ 0 → each_in f k s ≡ []
each_at_end f k [] e = each_none f k
each_at_end f k (c ∷ cs) e = absurd (omega arith)

pub each_out : {X : Type 0} (f : List ℕ → X) (k : ℕ) (s : List ℕ) → k ≡ 0 → each_in f k s ≡ []
each_out f zero s e = refl
each_out f (suc k) s e = absurd (omega arith)

pub each_step : {X : Type 0} (f : List ℕ → X) (k j : ℕ) (s : List ℕ) → k ≡ j + 1 → 0 < length s
    → each_in f k s ≡ f (first s) ∷ each_in f j (rest s)
each_step f zero j s e more = absurd (omega arith)
each_step f (suc k) j [] e more = absurd (omega arith)
each_step f (suc k) j (c ∷ cs) e more = let same : k ≡ j = omega arith in ap (λ n. f (first (c ∷ cs)) ∷ each_in f n (rest (c ∷ cs))) same

-- what is read so far and what is to come are all, before and behind one more argument
pub list_step : {X : Type 0} (f : List ℕ → X) (read more : List X) (s t : List ℕ) (most k : ℕ) (all : List X) (x : X)
    → more ≡ read ++ x ∷ [] → x ≡ f (first s) → t ≡ rest s → k < most → 0 < length s
    → read ++ each_in f (most - k) s ≡ all → more ++ each_in f (most - (k + 1)) t ≡ all
list_step f read more s t most k all x e same at low some so_far =
    rw (e, at, same, append_assoc) (ap (λ xs. read ++ xs) (sym (each_step f (most - k) (most - (k + 1)) s (omega arith) some)) ∙ so_far)

-- nothing is to come where there is no room, or nothing is left
pub list_done : {X : Type 0} (f : List ℕ → X) (read : List X) (s : List ℕ) (k : ℕ) (all : List X)
    → (k ≡ 0) ⊎ (length s ≡ 0) → read ++ each_in f k s ≡ all → read ≡ all
list_done f read s k all (inl e) so_far = sym (append-nil read) ∙ ap (λ xs. read ++ xs) (sym (each_out f k s e)) ∙ so_far
list_done f read s k all (inr e) so_far = sym (append-nil read) ∙ ap (λ xs. read ++ xs) (sym (each_at_end f k s e)) ∙ so_far
