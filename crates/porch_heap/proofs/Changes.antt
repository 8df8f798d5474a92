-- The list of blocks with one more or one fewer, and the block round an address.
use Rattle.std.proofs.Common.{◌≡◌, ◌≢◌, ℕ, zero, suc, ◌+◌, ◌<◌, ◌≤◌, Bool, true, false, ◌&&◌, ◌||◌, nat_le, eqb, Some, None, List, [], ◌∷◌, length, take, drop, get_or, refl, ap, sym, arith}
use Rattle.std.specs.Prelude.{insert, remove, find}
use Rattle.std.proofs.lemmas.Bool.{lt-ltb, le-ltb, le-leb, lt-leb, ne_eqb}
use Rattle.std.proofs.lemmas.Bool.Decides.{nat_tests}
use Rattle.porch_heap.specs.declared.block.Block.{Block}
use Rattle.porch_heap.specs.Blocks.{Each, Stand, with_block, without, begins, block_around}
use Rattle.porch_heap.specs.inside.Searching.{EndsBefore, BeginsBehind, Head}
use Rattle.porch_heap.proofs.Lists.{each_map, each_parts, each_left, each_right, stand_low, stand_drop}

-- one block more
pub stand_insert : (from end : ℕ) (xs : List Block) (i : ℕ) (b : Block) → Stand from end xs → i ≤ length xs → from ≤ b.at → Each (EndsBefore b.at) (take i xs) → Head (BeginsBehind (b.at + b.bytes)) (drop i xs) → b.at + b.bytes < end → Stand from end (insert xs i b)
stand_insert from end [] zero b h less low before behind high = (low, omega arith)
stand_insert from end [] (suc i) b h less low before behind high = absurd (omega arith)
stand_insert from end (c ∷ xs) zero b h less low before behind high = (low, (omega arith, h.1))
stand_insert from end (c ∷ xs) (suc i) b h less low before behind high =
    let here = before.0 in
    (h.0, stand_insert (c.at + c.bytes + 1) end xs i b h.1 (omega arith) (omega arith) before.1 behind high)

pub with_block-insert : (from end : ℕ) (xs : List Block) (i : ℕ) (b : Block) → Stand from end xs → i ≤ length xs → Each (EndsBefore b.at) (take i xs) → Head (BeginsBehind (b.at + b.bytes)) (drop i xs) → insert xs i b ≡ with_block b xs
with_block-insert from end [] zero b h less before behind = refl
with_block-insert from end [] (suc i) b h less before behind = absurd (omega arith)
with_block-insert from end (c ∷ xs) zero b h less before behind = rw (lt-ltb b.at c.at (omega arith)) refl
with_block-insert from end (c ∷ xs) (suc i) b h less before behind =
    let here = before.0 in
    rw (le-ltb b.at c.at (omega arith)) (ap (λ ys. c ∷ ys) (with_block-insert (c.at + c.bytes + 1) end xs i b h.1 (omega arith) before.1 behind))

pub each_insert : (P : Block → Type 0) (xs : List Block) (i : ℕ) (b : Block) → Each P (insert xs i b) → P b × Each P xs
each_insert P xs i b h =
    let right = each_right P (take i xs) (b ∷ drop i xs) h in
    (right.0, each_parts P xs i (each_left P (take i xs) (b ∷ drop i xs) h) right.1)

-- one block fewer
pub stand_from : (lower from end : ℕ) (xs : List Block) → lower ≤ from → Stand from end xs → Stand lower end xs
stand_from lower from end [] less h = omega arith
stand_from lower from end (b ∷ xs) less h = (let k = h.0 in omega arith, h.1)

pub stand_remove : (from end : ℕ) (xs : List Block) (i : ℕ) → Stand from end xs → Stand from end (remove xs i)
stand_remove from end [] zero h = h
stand_remove from end [] (suc i) h = h
stand_remove from end (b ∷ xs) zero h = let k = h.0 in stand_from from (b.at + b.bytes + 1) end xs (omega arith) h.1
stand_remove from end (b ∷ xs) (suc i) h = (h.0, stand_remove (b.at + b.bytes + 1) end xs i h.1)

keeps_all : (at : ℕ) (xs : List Block) → Each (λ b. b.at ≢ at) xs → without at xs ≡ xs
keeps_all at [] h = refl
keeps_all at (b ∷ xs) h = rw (ne_eqb b.at at h.0) (ap (λ ys. b ∷ ys) (keeps_all at xs h.1))

pub without-remove : (from end at : ℕ) (xs : List Block) (i : ℕ) → Stand from end xs → i < length xs → Head (λ b. b.at ≡ at) (drop i xs) → remove xs i ≡ without at xs
without-remove from end at [] i h less here = absurd (omega arith)
without-remove from end at (b ∷ xs) zero h less here =
    let others : Each (λ c. c.at ≢ at) xs = each_map (λ c. b.at + b.bytes + 1 ≤ c.at) (λ c. c.at ≢ at) (λ c k. omega arith) xs (stand_low (b.at + b.bytes + 1) end xs h.1) in
    rw (le-leb-eq b.at at here) (sym (keeps_all at xs others))
  where
    le-leb-eq : (x y : ℕ) → x ≡ y → eqb x y ≡ true
    le-leb-eq x y e = grind (arith, nat_tests)
without-remove from end at (b ∷ xs) (suc i) h less here =
    let low = later (b.at + b.bytes + 1) end at xs i h.1 (omega arith) here in
    rw (ne_eqb b.at at (omega arith)) (ap (λ ys. b ∷ ys) (without-remove (b.at + b.bytes + 1) end at xs i h.1 (omega arith) here))
  where
    later : (from end at : ℕ) (xs : List Block) (i : ℕ) → Stand from end xs → i < length xs → Head (λ b. b.at ≡ at) (drop i xs) → from ≤ at
    later from end at [] i h less here = absurd (omega arith)
    later from end at (b ∷ xs) zero h less here = let k = h.0 in omega arith
    later from end at (b ∷ xs) (suc i) h less here = let k = h.0 in let m = later (b.at + b.bytes + 1) end at xs i h.1 (omega arith) here in omega arith

pub begins-head : (at : ℕ) (xs : List Block) (i : ℕ) → i < length xs → Head (λ b. b.at ≡ at) (drop i xs) → begins at xs ≡ true
begins-head at [] i less here = absurd (omega arith)
begins-head at (b ∷ xs) zero less here = rw (same b.at at here) refl
  where
    same : (x y : ℕ) → x ≡ y → eqb x y ≡ true
    same x y e = grind (arith, nat_tests)
begins-head at (b ∷ xs) (suc i) less here = or_true (eqb b.at at) _ (begins-head at xs i (omega arith) here)
  where
    or_true : (a b : Bool) → b ≡ true → (a || b) ≡ true
    or_true true b h = refl
    or_true false b h = h

pub begins-none : (at : ℕ) (xs : List Block) → Each (λ b. b.at ≢ at) xs → begins at xs ≡ false
begins-none at [] h = refl
begins-none at (b ∷ xs) h = rw (ne_eqb b.at at h.0) (begins-none at xs h.1)

-- blocks from a number on, of which the first ends at or behind an address and doesn't begin there
pub none_begin : (from end at : ℕ) (xs : List Block) (i : ℕ) → Stand from end xs → Head (λ b. at ≤ b.at + b.bytes) (drop i xs) → Head (λ b. b.at ≢ at) (drop i xs) → Each (λ b. b.at ≢ at) (drop i xs)
none_begin from end at [] zero h k m = tt
none_begin from end at [] (suc i) h k m = tt
none_begin from end at (b ∷ xs) zero h k m = (m, each_map (λ c. b.at + b.bytes + 1 ≤ c.at) (λ c. c.at ≢ at) (λ c e. omega arith) xs (stand_low (b.at + b.bytes + 1) end xs h.1))
none_begin from end at (b ∷ xs) (suc i) h k m = none_begin (b.at + b.bytes + 1) end at xs i h.1 k m

-- the block round an address
abbrev pub is_round : ℕ → Block → Bool
is_round at b = nat_le b.at at && nat_le at (b.at + b.bytes)

and_false : (a : Bool) → (a && false) ≡ false
and_false true = refl
and_false false = refl

pub ends_not_round : (at : ℕ) (b : Block) → EndsBefore at b → is_round at b ≡ false
ends_not_round at b h = rw (lt-leb at (b.at + b.bytes) h) (and_false (nat_le b.at at))

pub begins_not_round : (at : ℕ) (b : Block) → at < b.at → is_round at b ≡ false
begins_not_round at b h = rw (lt-leb b.at at h) refl

pub find_none : (p : Block → Bool) (xs : List Block) → Each (λ b. p b ≡ false) xs → find p xs ≡ None
find_none p [] h = refl
find_none p (b ∷ xs) h = rw h.0 (find_none p xs h.1)

pub round_none : (from end at : ℕ) (xs : List Block) (i : ℕ) → Stand from end xs → Each (EndsBefore at) (take i xs) → Head (λ b. at + 1 ≤ b.at) (drop i xs) → block_around at xs ≡ None
round_none from end at xs i h before behind =
    find_none (is_round at) xs
    (each_parts (λ b. is_round at b ≡ false) xs i
    (each_map (EndsBefore at) (λ b. is_round at b ≡ false) (ends_not_round at) (take i xs) before)
    (each_map (λ b. at + 1 ≤ b.at) (λ b. is_round at b ≡ false) (λ b k. begins_not_round at b (omega arith)) (drop i xs) (stand_drop from end xs i (at + 1) h behind)))

pub round_some : (at : ℕ) (xs : List Block) (i : ℕ) (d : Block) → i < length xs → Each (EndsBefore at) (take i xs) → Head (λ b. at ≤ b.at + b.bytes) (drop i xs) → (get_or xs i d).at ≤ at → block_around at xs ≡ Some (get_or xs i d)
round_some at [] i d less before here low = absurd (omega arith)
round_some at (b ∷ xs) zero d less before here low = rw (le-leb b.at at low, le-leb at (b.at + b.bytes) here) refl
round_some at (b ∷ xs) (suc i) d less before here low = rw (ends_not_round at b before.0) (round_some at xs i d (omega arith) before.1 here low)
