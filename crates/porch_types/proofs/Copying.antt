-- Entries that hold the same are kept alike.
use Rattle.std.proofs.Common.{◌≡◌, ℕ, zero, suc, List, [], ◌∷◌, ◌++◌, length, slice_get, Option, Some, None, refl, arith, ap, sym, ◌∙◌, subst, map, take, get_or, ◌<◌, ◌≤◌, ◌+◌, ◌^◌}
use Rattle.std.specs.Option.{option_map}
use Rattle.std.proofs.lemmas.Option.{slice_get-map, slice_get_read}
use Rattle.porch_types.specs.declared.shapes.Ty.{Ty}
use Rattle.porch_types.specs.declared.entries.Entry.{Entry}
use Rattle.porch_types.specs.Leaves.{AreFormed, leaf_counts, leaves_of, kind_types}
use Rattle.porch_types.specs.Entries.{types_of}
use Rattle.porch_types.specs.inside.Kept.{IsKept, AreEntries, starts_of, content, contents}
use Rattle.porch_types.proofs.Putting.{map_end}

map_twice : {A B C : Type 0} (f : A → B) (g : B → C) (xs : List A) → map (λ x. g (f x)) xs ≡ map g (map f xs)
map_twice f g [] = refl
map_twice f g (x ∷ xs) = ap (λ r. g (f x) ∷ r) (map_twice f g xs)

pub same_types : (a b : List Entry) → contents a ≡ contents b → types_of a ≡ types_of b
same_types a b h =
    let first : (Ty × ℕ × List ℕ) → Ty = λ t. t.0 in
    map_twice content first a ∙ ap (map first) h ∙ sym (map_twice content first b)

same_leaves : (a b : List Entry) → contents a ≡ contents b → map (λ (e : Entry). e.leaves) a ≡ map (λ (e : Entry). e.leaves) b
same_leaves a b h =
    let second : (Ty × ℕ × List ℕ) → ℕ = λ t. t.1 in
    map_twice content second a ∙ ap (map second) h ∙ sym (map_twice content second b)

some_content : (o : Option Entry) (t : Ty × ℕ × List ℕ) → option_map content o ≡ Some t → (e : Entry) × ((o ≡ Some e) × (content e ≡ t))
some_content None t h = cc
some_content (Some e) t h = let same : content e ≡ t = cc in (e, (refl, same))

started_alike : (a b : List Entry) → contents a ≡ contents b → IsKept a → (number : ℕ) (entry : Entry) → slice_get b number ≡ Some entry
    → entry.starts.items ≡ starts_of (leaves_of (types_of b)) entry.ty
started_alike a b h kept number entry at =
    let there : option_map content (slice_get a number) ≡ Some (content entry) =
    sym (slice_get-map content a number) ∙ ap (λ cs. slice_get cs number) h ∙ slice_get-map content b number ∙ ap (option_map content) at in
    let e = some_content (slice_get a number) (content entry) there in
    let starts : e.0.starts.items ≡ entry.starts.items = ap (λ (t : Ty × ℕ × List ℕ). t.2) e.1.1 in
    let ty : e.0.ty ≡ entry.ty = ap (λ (t : Ty × ℕ × List ℕ). t.0) e.1.1 in
    sym starts ∙ kept.started number e.0 e.1.0 ∙ ap (starts_of (leaves_of (types_of a))) ty ∙ ap (λ ts. starts_of (leaves_of ts) entry.ty) (same_types a b h)

pub kept_alike : (a b : List Entry) → contents a ≡ contents b → AreEntries a → AreEntries b
kept_alike a b h are =
    let t : types_of a ≡ types_of b = same_types a b h in
    record {
      kinds = subst (λ ts. take 8 ts ≡ kind_types) t are.kinds;
      few = subst (λ ts. length ts ≤ 2 ^ 31) t are.few;
      kept = record {
        formed = subst AreFormed t are.kept.formed;
        counted = sym (same_leaves a b h) ∙ are.kept.counted ∙ ap leaf_counts t;
        started = started_alike a b h are.kept;
      };
    }

take_next : {A : Type 0} (xs : List A) (i : ℕ) (y : A) → slice_get xs i ≡ Some y → take (suc i) xs ≡ take i xs ++ y ∷ []
take_next [] i y h = cc
take_next (x ∷ xs) zero y h = let e : x ≡ y = cc in ap (λ z. z ∷ []) e
take_next (x ∷ xs) (suc i) y h = ap (λ r. x ∷ r) (take_next xs i y h)

pub copied_more : (copies entries : List Entry) (i : ℕ) (copy entry : Entry) → contents copies ≡ take i (contents entries) → content copy ≡ content entry
    → entry ≡ get_or entries i entry → i < length entries → contents (copies ++ copy ∷ []) ≡ take (i + 1) (contents entries)
copied_more copies entries i copy entry h same at lt =
    let found : slice_get entries i ≡ Some entry = slice_get_read entries (length entries) i entry refl lt at in
    let there : slice_get (contents entries) i ≡ Some (content entry) = slice_get-map content entries i ∙ ap (option_map content) found in
    let s : suc i ≡ i + 1 = omega arith in
    map_end content copies copy
    ∙ ap (λ xs. xs ++ content copy ∷ []) h
    ∙ ap (λ x. take i (contents entries) ++ x ∷ []) same
    ∙ sym (take_next (contents entries) i (content entry) there)
    ∙ ap (λ n. take n (contents entries)) s
