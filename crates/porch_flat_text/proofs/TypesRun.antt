-- The types of a list of types can be added one after another.
use Rattle.std.proofs.Common.{◌≡◌, ℕ, ◌+◌, ◌<◌, ◌≤◌, ◌^◌, true, false, leb, eqb, List, [], ◌∷◌, ◌++◌, length, get_or, slice_get, Option, Some, None, refl, sym, ap, subst, ◌∙◌, arith, length-append, zero-add}
use Rattle.std.proofs.lemmas.Bool.Decides.{nat_tests}
use Rattle.std.proofs.lemmas.List.Elements.{recursion_from_All}
use Rattle.std.proofs.lemmas.List.{get_or_append_left}
use Rattle.std.proofs.Math.Seq.{get_or-append_seam}
use Rattle.std.specs.List.{find, AllByRecursion}
use Rattle.porch_types.specs.declared.shapes.Ty.{Ty}
use Rattle.porch_types.specs.Leaves.{parts_of, width_of, leaf_count, leaf_counts_from, leaf_counts, leaves_of, IsTypes}
use Rattle.porch_types.specs.Adding.{later_part, fault_of, add_fault}

counts_append : (before : List ℕ) (xs ys : List Ty) → leaf_counts_from before (xs ++ ys) ≡ leaf_counts_from (leaf_counts_from before xs) ys
counts_append before [] ys = refl
counts_append before (x ∷ xs) ys = counts_append (before ++ leaf_count (λ i. get_or before i 0) x ∷ []) xs ys

counts_keep : (before : List ℕ) (xs : List Ty) (i : ℕ) → i < length before → get_or (leaf_counts_from before xs) i 0 ≡ get_or before i 0
counts_keep before [] i low = refl
counts_keep before (x ∷ xs) i low =
    let more = before ++ leaf_count (λ k. get_or before k 0) x ∷ [] in
    counts_keep more xs i (rw (length-append before (leaf_count (λ k. get_or before k 0) x ∷ [])) (omega (arith, low))) ∙ get_or_append_left before (leaf_count (λ k. get_or before k 0) x ∷ []) 0 i low

counts_long : (before : List ℕ) (xs : List Ty) → length (leaf_counts_from before xs) ≡ length before + length xs
counts_long before [] = omega arith
counts_long before (x ∷ xs) =
    let more = leaf_count (λ k. get_or before k 0) x ∷ [] in
    counts_long (before ++ more) xs ∙ omega (arith, length-append before more)

next_leaves : (xs : List Ty) (x : Ty) (ys : List Ty) → leaves_of (xs ++ x ∷ ys) (length xs) ≡ leaf_count (leaves_of xs) x
next_leaves xs x ys =
    let before = leaf_counts xs in
    let own = leaf_count (λ k. get_or before k 0) x in
    let long : length before ≡ length xs = counts_long [] xs ∙ zero-add (length xs) in
    ap (λ counts. get_or counts (length xs) 0) (counts_append [] xs (x ∷ ys))
    ∙ counts_keep (before ++ own ∷ []) ys (length xs) (rw (length-append before (own ∷ [])) (omega (arith, long)))
    ∙ ap (λ n. get_or (before ++ own ∷ []) n 0) (sym long) ∙ get_or-append_seam before own [] 0

none_found : (n : ℕ) (parts : List ℕ) → AllByRecursion (λ part. part < n) parts → find (λ part. leb n part) parts ≡ None
none_found n [] all = refl
none_found n (part ∷ parts) all = let no_later : leb n part ≡ false = grind (arith, nat_tests, all.0) in rw no_later (none_found n parts all.1)

no_fault : (later : Option ℕ) (width leaves : ℕ) → later ≡ None → 0 < width → leaves ≤ 1_048_576 → fault_of later width leaves ≡ None
no_fault None width leaves e some small =
    let wide : eqb width 0 ≡ false = grind (arith, nat_tests) in let few : leb leaves 1048576 ≡ true = grind (arith, nat_tests) in rw (wide, few) refl
no_fault (Some part) width leaves e some small = cc

get_here : (xs : List Ty) (x : Ty) (ys : List Ty) → slice_get (xs ++ x ∷ ys) (length xs) ≡ Some x
get_here [] x ys = refl
get_here (y ∷ xs) x ys = get_here xs x ys

pub adds_next : (ts : List Ty) (ty : Ty) (more : List Ty) → IsTypes (ts ++ ty ∷ more) → add_fault ts ty ≡ None
adds_next ts ty more types =
    let formed = types.formed.each (length ts) ty (get_here ts ty more) in
    no_fault (later_part (length ts) ty) (width_of ty) (leaf_count (leaves_of ts) ty)
    (none_found (length ts) (parts_of ty) (recursion_from_All (λ part. part < length ts) (parts_of ty) formed.earlier))
    formed.occupied (subst (λ n. n ≤ 1_048_576) (next_leaves ts ty more) formed.small)

pub few_before : (ts : List Ty) (ty : Ty) (more : List Ty) → IsTypes (ts ++ ty ∷ more) → length ts < 2 ^ 31
few_before ts ty more types = omega (arith, types.few, length-append ts (ty ∷ more))
