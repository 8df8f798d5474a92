-- The numbers of leaves of a list of types.
use Rattle.std.proofs.Common.{◌≡◌, ℕ, zero, suc, ◌+◌, ◌*◌, ◌<◌, List, [], ◌∷◌, ◌++◌, length, get_or, slice_get, slice_index, Some, refl, arith, ap, sym, ◌∙◌, append_assoc, length-append, All}
use Rattle.std.proofs.lemmas.Grind.{common_steps}
use Rattle.std.proofs.lemmas.Option.{slice_get-get_or}
use Rattle.std.proofs.lemmas.List.{get_or_append_left}
use Rattle.std.proofs.Math.Seq.{get_or-append_seam}
use Rattle.porch_types.specs.declared.shapes.Ty.{Ty}
use Rattle.porch_types.specs.declared.shapes.Ty.TheVariants.{Whole, Pointer, Array, Struct}
use Rattle.porch_types.specs.Leaves.{parts_of, width_of, leaves_together, leaf_count, leaf_counts_from, leaf_counts, leaves_of, AreFormed, IsFormed}

pub counts_split : (before : List ℕ) (xs ys : List Ty) → leaf_counts_from before (xs ++ ys) ≡ leaf_counts_from (leaf_counts_from before xs) ys
counts_split before [] ys = refl
counts_split before (x ∷ xs) ys = counts_split (before ++ leaf_count (slice_index before) x ∷ []) xs ys

pub record Grown (before after : List ℕ) : Type 0 where
  pub more : List ℕ
  pub is : after ≡ before ++ more

pub counts_grow : (before : List ℕ) (xs : List Ty) → Grown before (leaf_counts_from before xs)
counts_grow before [] = record { more = []; is = grind (arith, common_steps) }
counts_grow before (x ∷ xs) =
    let next = leaf_count (slice_index before) x in
    let g : Grown (before ++ next ∷ []) (leaf_counts_from (before ++ next ∷ []) xs) = counts_grow (before ++ next ∷ []) xs in
    record { more = next ∷ g.more; is = g.is ∙ append_assoc before (next ∷ []) g.more }

pub length-counts : (before : List ℕ) (xs : List Ty) → length (leaf_counts_from before xs) ≡ length before + length xs
length-counts before [] = omega arith
length-counts before (x ∷ xs) =
    let next = leaf_count (slice_index before) x in
    omega (arith, length-counts (before ++ next ∷ []) xs, length-append before (next ∷ []))

-- the number of leaves of one type, from those of the types before it
pub record CountedAt (counts : List ℕ) (n : ℕ) (ty : Ty) : Type 0 where
  pub front : List ℕ
  pub more : List ℕ
  pub is : counts ≡ front ++ leaf_count (slice_index front) ty ∷ more
  pub place : length front ≡ n

pub counted_at : (before : List ℕ) (xs : List Ty) (n : ℕ) (ty : Ty) → slice_get xs n ≡ Some ty → CountedAt (leaf_counts_from before xs) (length before + n) ty
counted_at before [] n ty h = cc
counted_at before (x ∷ xs) zero ty h =
    let next = leaf_count (slice_index before) x in
    let g : Grown (before ++ next ∷ []) (leaf_counts_from (before ++ next ∷ []) xs) = counts_grow (before ++ next ∷ []) xs in
    let same : x ≡ ty = cc in
    record {
      front = before;
      more = g.more;
      is = g.is ∙ append_assoc before (next ∷ []) g.more ∙ ap (λ t. before ++ leaf_count (slice_index before) t ∷ g.more) same;
      place = omega arith;
    }
counted_at before (x ∷ xs) (suc n) ty h =
    let next = leaf_count (slice_index before) x in
    let r : CountedAt (leaf_counts_from (before ++ next ∷ []) xs) (length (before ++ next ∷ []) + n) ty = counted_at (before ++ next ∷ []) xs n ty h in
    record {
      front = r.front;
      more = r.more;
      is = r.is;
      place = omega (arith, r.place, length-append before (next ∷ []));
    }

together_same : (f g : ℕ → ℕ) (n : ℕ) (ms : List ℕ) → All (λ p. p < n) ms → ((p : ℕ) → p < n → f p ≡ g p) → leaves_together f ms ≡ leaves_together g ms
together_same f g n [] a e = refl
together_same f g n (m ∷ ms) a e =
    let here : f m ≡ g m = e m (a 0 0 (omega arith)) in
    let rest : leaves_together f ms ≡ leaves_together g ms = together_same f g n ms (λ k d lt. a (suc k) d (omega arith)) e in
    omega (arith, here, rest)

pub count_same : (f g : ℕ → ℕ) (n : ℕ) (ty : Ty) → All (λ p. p < n) (parts_of ty) → ((p : ℕ) → p < n → f p ≡ g p) → leaf_count f ty ≡ leaf_count g ty
count_same f g n (Whole kind) a e = refl
count_same f g n (Pointer to) a e = refl
count_same f g n (Array of count) a e = ap (λ x. count * x) (e of (a 0 0 (omega arith)))
count_same f g n (Struct members) a e = together_same f g n members a e

-- the leaves of a type are those of its parts
pub leaves_is : (types : List Ty) (n : ℕ) (ty : Ty) → All (λ p. p < n) (parts_of ty) → slice_get types n ≡ Some ty → leaves_of types n ≡ leaf_count (leaves_of types) ty
leaves_is types n ty a h =
    let r : CountedAt (leaf_counts types) (0 + n) ty = counted_at [] types n ty h in
    let c = leaf_count (slice_index r.front) ty in
    let place : length r.front ≡ n = omega (arith, r.place) in
    let here : get_or (leaf_counts types) n 0 ≡ c = ap (λ xs. get_or xs n 0) r.is ∙ ap (λ k. get_or (r.front ++ c ∷ r.more) k 0) (sym place) ∙ get_or-append_seam r.front c r.more 0 in
    here ∙ count_same (slice_index r.front) (leaves_of types) n ty a
    (λ p lt. sym (ap (λ xs. get_or xs p 0) r.is ∙ get_or_append_left r.front (c ∷ r.more) 0 p (omega (arith, place, lt))))

-- a type that is added leaves the earlier ones as they are
pub leaves_kept : (types more : List Ty) (n : ℕ) → n < length types → leaves_of (types ++ more) n ≡ leaves_of types n
leaves_kept types more n lt =
    let g : Grown (leaf_counts types) (leaf_counts_from (leaf_counts types) more) = counts_grow (leaf_counts types) more in
    ap (λ xs. get_or xs n 0) (counts_split [] types more ∙ g.is)
    ∙ get_or_append_left (leaf_counts types) g.more 0 n (omega (arith, length-counts [] types, lt))

mul_some : (a b : ℕ) → 0 < a → 0 < b → 0 < a * b
mul_some a b h k = grind arith

together_some : (f : ℕ → ℕ) (ms : List ℕ) → 0 < length ms → ((k : ℕ) → k < length ms → 0 < f (get_or ms k 0)) → 0 < leaves_together f ms
together_some f [] h e = absurd (omega arith)
together_some f (m ∷ ms) h e = let here : 0 < f m = e 0 (omega arith) in omega (arith, here)

count_some : (f : ℕ → ℕ) (n : ℕ) (ty : Ty) → All (λ p. p < n) (parts_of ty) → 0 < width_of ty → ((p : ℕ) → p < n → 0 < f p) → 0 < leaf_count f ty
count_some f n (Whole kind) a w e = omega arith
count_some f n (Pointer to) a w e = omega arith
count_some f n (Array of count) a w e = mul_some count (f of) w (e of (a 0 0 (omega arith)))
count_some f n (Struct members) a w e = together_some f members w (λ k lt. e _ (a k 0 lt))

some_below : (types : List Ty) → AreFormed types → (bound n : ℕ) → n < bound → n < length types → 0 < leaves_of types n
some_below types t zero n lt within = absurd (omega arith)
some_below types t (suc bound) n lt within =
    let ty : Ty = get_or types n (Pointer 0) in
    let at : slice_get types n ≡ Some ty = slice_get-get_or types n (Pointer 0) within in
    let f : IsFormed types n ty = t.each n ty at in
    let some : 0 < leaf_count (leaves_of types) ty =
    count_some (leaves_of types) n ty f.earlier f.occupied (λ p below. some_below types t bound p (omega (arith, below, lt)) (omega (arith, below, within))) in
    let e : leaves_of types n ≡ leaf_count (leaves_of types) ty = leaves_is types n ty f.earlier at in
    omega (arith, some, e)

-- each type has a leaf
pub leaves_some : (types : List Ty) (n : ℕ) → AreFormed types → n < length types → 0 < leaves_of types n
leaves_some types n t within = some_below types t (suc n) n (omega arith) within
