-- The first token that is shown to lie too deep is one of those that were read.
use Rattle.std.proofs.Common.{◌≡◌, ◌<◌, ◌≤◌, ◌+◌, ℕ, zero, suc, Bool, true, false, nat_lt, if◌then◌else◌, List, [], ◌∷◌, length, take, get_or, Option, Some, None, refl, sym, subst, ap, ◌∙◌, arith}
use Rattle.std.proofs.lemmas.Bool.{ltb-true, ltb-false}
use Rattle.porch_tree.specs.Pieces.{Spelled}
use Rattle.porch_tree.specs.Grammar.{MOST_USES}
use Rattle.porch_walk.specs.Walk.{Stage, step, start}
use Rattle.porch_walk.specs.Walks.{knows}
use Rattle.porch_walk.specs.declared.level.Level.{Level}
use Rattle.porch_walk.specs.declared.level.Reading.{Reading}
use Rattle.porch_walk.specs.Levels.{read, readings, readings_from, shown}
use Rattle.porch_depth.specs.Levels.{deep_from, first_deep}

some_same : (i j : ℕ) → Some i ≡ Some j → i ≡ j
some_same i j e = cc

deep_in : (ns : List ℕ) (i j : ℕ) → deep_from i ns ≡ Some j → j < i + length ns
deep_in [] i j e = cc
deep_in (n ∷ ns) i j e = by (deep_in ns (i + 1) j) (nat_lt MOST_USES n) e
  where
    by : (deep_from (i + 1) ns ≡ Some j → j < i + 1 + length ns) → (b : Bool) → (if b then Some i else deep_from (i + 1) ns) ≡ Some j → j < i + length (n ∷ ns)
    by f true h = let k = some_same i j h in omega (arith, k)
    by f false h = let k = f h in omega (arith, k)

shown_length : (rs : List Reading) → length (shown rs) ≡ length rs
shown_length [] = refl
shown_length (r ∷ rs) = ap suc (shown_length rs)

readings_length : (ts : List Spelled) (s : Stage) (ls : List Level) (i : ℕ) → length (readings s ls i ts) ≤ length ts
readings_length [] s ls i = search arith
readings_length (t ∷ ts) s ls i = by (λ next. readings_length ts next (read (knows s t) i t.word s.pending ls).levels (i + 1)) (step s t.word t.bytes)
  where
    by : ((next : Stage) → length (readings next (read (knows s t) i t.word s.pending ls).levels (i + 1) ts) ≤ length ts) → (o : Option Stage) → length (readings_from o (λ next. (read (knows s t) i t.word s.pending ls).reading ∷ readings next (read (knows s t) i t.word s.pending ls).levels (i + 1) ts)) ≤ length (t ∷ ts)
    by f None = search arith
    by f (Some next) = let k = f next in omega (arith, k)

take_length : (n : ℕ) (ts : List Spelled) → length (take n ts) ≤ n
take_length zero ts = search arith
take_length (suc n) [] = search arith
take_length (suc n) (t ∷ ts) = let k = take_length n ts in omega (arith, k)

pub deep_before : (n i : ℕ) (ts : List Spelled) → first_deep (take n ts) ≡ Some i → i < n
deep_before n i ts e =
    let a = deep_in (shown (readings start [] 0 (take n ts))) 0 i e in
    let b = shown_length (readings start [] 0 (take n ts)) in
    let c = readings_length (take n ts) start [] 0 in
    let d = take_length n ts in
    omega (arith, a, b, c, d)

-- Which token that is.

deep_least : (ns : List ℕ) (i j : ℕ) → deep_from i ns ≡ Some j → i ≤ j
deep_least [] i j e = cc
deep_least (n ∷ ns) i j e = by (deep_least ns (i + 1) j) (nat_lt MOST_USES n) e
  where
    by : (deep_from (i + 1) ns ≡ Some j → i + 1 ≤ j) → (b : Bool) → (if b then Some i else deep_from (i + 1) ns) ≡ Some j → i ≤ j
    by f true h = let k = some_same i j h in omega (arith, k)
    by f false h = let k = f h in omega (arith, k)

pub deep_at : (ns : List ℕ) (i k : ℕ) → deep_from i ns ≡ Some (i + k) → MOST_USES < get_or ns k 0
deep_at [] i k e = cc
deep_at (n ∷ ns) i k e = by (deep_at ns (i + 1)) k (nat_lt MOST_USES n) refl e
  where
    by : ((k : ℕ) → deep_from (i + 1) ns ≡ Some (i + 1 + k) → MOST_USES < get_or ns k 0) → (k : ℕ) (b : Bool) → nat_lt MOST_USES n ≡ b → (if b then Some i else deep_from (i + 1) ns) ≡ Some (i + k) → MOST_USES < get_or (n ∷ ns) k 0
    by f zero true q e = ltb-true MOST_USES n q
    by f (suc k) true q e = absurd (let h = some_same i (i + suc k) e in omega (arith, h))
    by f zero false q e = absurd (let h = deep_least ns (i + 1) (i + 0) e in omega (arith, h))
    by f (suc k) false q e = f k (let s : i + suc k ≡ i + 1 + k = omega arith in e ∙ ap Some s)

pub not_before : (ns : List ℕ) (i k m : ℕ) → deep_from i ns ≡ Some (i + k) → m < k → MOST_USES < get_or ns m 0 → ⊥
not_before [] i k m e h l = cc
not_before (n ∷ ns) i k m e h l = by (not_before ns (i + 1)) k m (nat_lt MOST_USES n) refl e h l
  where
    by : ((k m : ℕ) → deep_from (i + 1) ns ≡ Some (i + 1 + k) → m < k → MOST_USES < get_or ns m 0 → ⊥) → (k m : ℕ) (b : Bool) → nat_lt MOST_USES n ≡ b → (if b then Some i else deep_from (i + 1) ns) ≡ Some (i + k) → m < k → MOST_USES < get_or (n ∷ ns) m 0 → ⊥
    by f k m true q e h l = let s = some_same i (i + k) e in omega (arith, s)
    by f zero m false q e h l = omega arith
    by f (suc k) zero false q e h l = let a = ltb-false MOST_USES n q in omega (arith, a)
    by f (suc k) (suc m) false q e h l = f k m (let s : i + suc k ≡ i + 1 + k = omega arith in e ∙ ap Some s) (omega (arith, h)) l

pub nowhere : (ns : List ℕ) (i m : ℕ) → deep_from i ns ≡ None → MOST_USES < get_or ns m 0 → ⊥
nowhere [] i m e l = omega (arith, l)
nowhere (n ∷ ns) i m e l = by (nowhere ns (i + 1)) m (nat_lt MOST_USES n) refl e l
  where
    by : ((m : ℕ) → deep_from (i + 1) ns ≡ None → MOST_USES < get_or ns m 0 → ⊥) → (m : ℕ) (b : Bool) → nat_lt MOST_USES n ≡ b → (if b then Some i else deep_from (i + 1) ns) ≡ None → MOST_USES < get_or (n ∷ ns) m 0 → ⊥
    by f m true q e l = cc
    by f zero false q e l = let a = ltb-false MOST_USES n q in omega (arith, a)
    by f (suc m) false q e l = f m e l
