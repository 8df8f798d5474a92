-- The extents of a list of types, and of one with one more type.
use Rattle.std.proofs.Common.{◌≡◌, ℕ, zero, suc, ◌+◌, ◌*◌, ◌<◌, max, List, [], ◌∷◌, ◌++◌, length, get_or, slice_get, Some, refl, arith, ap, sym, ◌∙◌, append_assoc, length-append, All}
use Rattle.std.proofs.lemmas.Grind.{common_steps}
use Rattle.std.proofs.lemmas.List.{get_or_append_left}
use Rattle.std.proofs.Math.Seq.{get_or-append_seam}
use Rattle.porch_types.specs.declared.shapes.Ty.{Ty}
use Rattle.porch_types.specs.declared.shapes.Ty.TheVariants.{Whole, Pointer, Array, Struct}
use Rattle.porch_types.specs.Leaves.{parts_of}
use Rattle.porch_layout.specs.declared.layout.Layout.{Layout}
use Rattle.porch_metrics.specs.Extents.{Extent, round_up, greatest_align, member_places, members_end, type_extent, extent_in, extents_from, extents_of, extent_of}
use Rattle.porch_metrics.specs.inside.Tables.{places_of}

abbrev pub none : Extent
none = record { size = 0; align = 1 }

pub extents_split : (l : Layout) (before : List Extent) (xs ys : List Ty) → extents_from l before (xs ++ ys) ≡ extents_from l (extents_from l before xs) ys
extents_split l before [] ys = refl
extents_split l before (x ∷ xs) ys = extents_split l (before ++ type_extent l (extent_in before) x ∷ []) xs ys

pub record Grown (before after : List Extent) : Type 0 where
  pub more : List Extent
  pub is : after ≡ before ++ more

extents_grow : (l : Layout) (before : List Extent) (xs : List Ty) → Grown before (extents_from l before xs)
extents_grow l before [] = record { more = []; is = grind (arith, common_steps) }
extents_grow l before (x ∷ xs) =
    let next = type_extent l (extent_in before) x in
    let g : Grown (before ++ next ∷ []) (extents_from l (before ++ next ∷ []) xs) = extents_grow l (before ++ next ∷ []) xs in
    record { more = next ∷ g.more; is = g.is ∙ append_assoc before (next ∷ []) g.more }

pub length-extents : (l : Layout) (before : List Extent) (xs : List Ty) → length (extents_from l before xs) ≡ length before + length xs
length-extents l before [] = omega arith
length-extents l before (x ∷ xs) =
    let next = type_extent l (extent_in before) x in
    omega (arith, length-extents l (before ++ next ∷ []) xs, length-append before (next ∷ []))

record ExtentAt (l : Layout) (extents : List Extent) (n : ℕ) (ty : Ty) : Type 0 where
  pub front : List Extent
  pub more : List Extent
  pub is : extents ≡ front ++ type_extent l (extent_in front) ty ∷ more
  pub place : length front ≡ n

extent_at : (l : Layout) (before : List Extent) (xs : List Ty) (n : ℕ) (ty : Ty) → slice_get xs n ≡ Some ty → ExtentAt l (extents_from l before xs) (length before + n) ty
extent_at l before [] n ty h = cc
extent_at l before (x ∷ xs) zero ty h =
    let next = type_extent l (extent_in before) x in
    let g : Grown (before ++ next ∷ []) (extents_from l (before ++ next ∷ []) xs) = extents_grow l (before ++ next ∷ []) xs in
    let same : x ≡ ty = cc in
    record {
      front = before;
      more = g.more;
      is = g.is ∙ append_assoc before (next ∷ []) g.more ∙ ap (λ t. before ++ type_extent l (extent_in before) t ∷ g.more) same;
      place = omega arith;
    }
extent_at l before (x ∷ xs) (suc n) ty h =
    let next = type_extent l (extent_in before) x in
    let r : ExtentAt l (extents_from l (before ++ next ∷ []) xs) (length (before ++ next ∷ []) + n) ty = extent_at l (before ++ next ∷ []) xs n ty h in
    record { front = r.front; more = r.more; is = r.is; place = omega (arith, r.place, length-append before (next ∷ [])) }

-- two tables of extents that agree below a number
abbrev pub Agree : (ℕ → Extent) → (ℕ → Extent) → ℕ → Type 0
Agree f g n = (p : ℕ) → p < n → f p ≡ g p

tail_below : (n m : ℕ) (ms : List ℕ) → All (λ p. p < n) (m ∷ ms) → All (λ p. p < n) ms
tail_below n m ms a = λ k d lt. a (suc k) d (omega (arith, lt))

ends_same : (f g : ℕ → Extent) (n end : ℕ) (ms : List ℕ) → All (λ p. p < n) ms → Agree f g n → members_end f end ms ≡ members_end g end ms
ends_same f g n end [] a e = refl
ends_same f g n end (m ∷ ms) a e =
    ap (λ (x : Extent). members_end f (round_up end x.align + x.size) ms) (e m (a 0 0 (omega arith)))
    ∙ ends_same f g n (round_up end (g m).align + (g m).size) ms (tail_below n m ms a) e

greatest_same : (f g : ℕ → Extent) (n least : ℕ) (ms : List ℕ) → All (λ p. p < n) ms → Agree f g n → greatest_align f least ms ≡ greatest_align g least ms
greatest_same f g n least [] a e = refl
greatest_same f g n least (m ∷ ms) a e =
    ap (λ (x : Extent). max x.align (greatest_align f least ms)) (e m (a 0 0 (omega arith)))
    ∙ ap (λ x. max (g m).align x) (greatest_same f g n least ms (tail_below n m ms a) e)

places_same_from : (f g : ℕ → Extent) (n end : ℕ) (ms : List ℕ) → All (λ p. p < n) ms → Agree f g n → member_places f end ms ≡ member_places g end ms
places_same_from f g n end [] a e = refl
places_same_from f g n end (m ∷ ms) a e =
    ap (λ (x : Extent). round_up end x.align ∷ member_places f (round_up end x.align + x.size) ms) (e m (a 0 0 (omega arith)))
    ∙ ap (λ xs. round_up end (g m).align ∷ xs) (places_same_from f g n (round_up end (g m).align + (g m).size) ms (tail_below n m ms a) e)

pub places_same : (f g : ℕ → Extent) (n : ℕ) (ty : Ty) → All (λ p. p < n) (parts_of ty) → Agree f g n → places_of f ty ≡ places_of g ty
places_same f g n (Whole kind) a e = refl
places_same f g n (Pointer to) a e = refl
places_same f g n (Array of count) a e = refl
places_same f g n (Struct members) a e = places_same_from f g n 0 members a e

pub extent_same : (l : Layout) (f g : ℕ → Extent) (n : ℕ) (ty : Ty) → All (λ p. p < n) (parts_of ty) → Agree f g n → type_extent l f ty ≡ type_extent l g ty
extent_same l f g n (Whole kind) a e = refl
extent_same l f g n (Pointer to) a e = refl
extent_same l f g n (Array of count) a e = ap (λ (x : Extent). record { size = count * x.size; align = x.align }) (e of (a 0 0 (omega arith)))
extent_same l f g n (Struct members) a e =
    ap (λ x. record { size = round_up x (greatest_align f l.least_struct members); align = greatest_align f l.least_struct members }) (ends_same f g n 0 members a e)
    ∙ ap (λ x. record { size = round_up (members_end g 0 members) x; align = x }) (greatest_same f g n l.least_struct members a e)

-- the extent of a type is that of its parts
pub extent_is : (l : Layout) (types : List Ty) (n : ℕ) (ty : Ty) → All (λ p. p < n) (parts_of ty) → slice_get types n ≡ Some ty
    → extent_of l types n ≡ type_extent l (extent_of l types) ty
extent_is l types n ty a h =
    let r : ExtentAt l (extents_of l types) (0 + n) ty = extent_at l [] types n ty h in
    let c = type_extent l (extent_in r.front) ty in
    let place : length r.front ≡ n = omega (arith, r.place) in
    let here : get_or (extents_of l types) n none ≡ c = ap (λ xs. get_or xs n none) r.is ∙ ap (λ k. get_or (r.front ++ c ∷ r.more) k none) (sym place) ∙ get_or-append_seam r.front c r.more none in
    here ∙ extent_same l (extent_in r.front) (extent_of l types) n ty a
    (λ p lt. sym (ap (λ xs. get_or xs p none) r.is ∙ get_or_append_left r.front (c ∷ r.more) none p (omega (arith, place, lt))))

-- a type that is added leaves the earlier ones as they are
pub extents_kept : (l : Layout) (types more : List Ty) (n : ℕ) → n < length types → extent_of l (types ++ more) n ≡ extent_of l types n
extents_kept l types more n lt =
    let g : Grown (extents_of l types) (extents_from l (extents_of l types) more) = extents_grow l (extents_of l types) more in
    ap (λ xs. get_or xs n none) (extents_split l [] types more ∙ g.is)
    ∙ get_or_append_left (extents_of l types) g.more none n (omega (arith, length-extents l [] types, lt))

pub extents_next : (l : Layout) (types : List Ty) (ty : Ty) → extents_of l (types ++ ty ∷ []) ≡ extents_of l types ++ type_extent l (extent_of l types) ty ∷ []
extents_next l types ty = extents_split l [] types (ty ∷ [])
