-- How many leaves each of the last types has.
use Rattle.std.proofs.Common.{◌≡◌, ℕ, ◌*◌, List, [], ◌∷◌, ◌++◌, length, map, refl, sym, ap, subst, ◌∙◌, append_assoc, append-nil, Option, Some, None}
use Rattle.std.proofs.lemmas.List.{map_push}
use Rattle.std.proofs.lemmas.Option.{slice_get-map, get_or_from_slice_get}
use Rattle.std.specs.Prelude.{⊤, slice_get, slice_index}
use Rattle.std.specs.Option.{option_map}
use Rattle.porch_types.specs.declared.shapes.Ty.{Ty}
use Rattle.porch_types.specs.Leaves.{leaf_count, leaf_counts_from, leaf_counts, leaves_of, leaves_together}
use Rattle.porch_check.specs.Shapes.{Shape, void, pointer, array, structure, function, Member, Shapes, shape_of, size_of, members_of}
use Rattle.porch_check.specs.Shapes as shape
use Rattle.porch_check.specs.Sealing.{number_of, type_of, own_types, sealed_types}
use Rattle.porch_typing.specs.Shapes.{Each, IsShape}
use Rattle.porch_numbering.specs.Lasts.{IsEarlier, IsMadeOf, IsMade, AreLast}
use Rattle.porch_numbering.proofs.Lists.{in_front, of_front, behind_end, position_at}
use Rattle.porch_numbering.proofs.Pointers.{IsPointerType, Adds, pointers_added}

-- types with these many leaves, behind others
abbrev Counts : List ℕ → List Ty → List ℕ → Type 0
Counts before [] [] = ⊤
Counts before (ty ∷ rest) (k ∷ ks) = (leaf_count (slice_index before) ty ≡ k) × Counts (before ++ k ∷ []) rest ks
Counts before types ks = ⊥

counted : (before : List ℕ) (rest : List Ty) (ks : List ℕ) → Counts before rest ks → leaf_counts_from before rest ≡ before ++ ks
counted before [] [] h = sym (append-nil before)
counted before (ty ∷ rest) (k ∷ ks) h =
    ap (λ n. leaf_counts_from (before ++ n ∷ []) rest) h.0 ∙ counted (before ++ k ∷ []) rest ks h.1 ∙ append_assoc before (k ∷ []) ks
counted before [] (k ∷ ks) h = absurd h
counted before (ty ∷ rest) [] h = absurd h

abbrev pub ones : List Ty → List ℕ
ones [] = []
ones (t ∷ ts) = 1 ∷ ones ts

pointer_count : (before : List ℕ) (t : Ty) → IsPointerType t → leaf_count (slice_index before) t ≡ 1
pointer_count before t p = subst (λ t. leaf_count (slice_index before) t ≡ 1) (sym p.1) refl

pointers_count : (before : List ℕ) (more : List Ty) → Each IsPointerType more → Counts before more (ones more)
pointers_count before [] h = tt
pointers_count before (t ∷ more) h = (pointer_count before t h.0, pointers_count (before ++ 1 ∷ []) more h.1)

some_shape : (s : Shapes) (n : ℕ) (x : Shape) → IsShape s n x → shape_of s n ≡ x
some_shape s n x e = by (shape.row_of s n) e
  where
    by : (o : Option shape.Row) → option_map (λ (r : shape.Row). r.shape) o ≡ Some x → Rattle.std.specs.Option.option_map_or (λ (r : shape.Row). r.shape) o void ≡ x
    by None e = absurd (cc)
    by (Some r) e = cc

pub shape_there : (s : Shapes) (n : ℕ) (x : Shape) → IsShape s n x → shape_of s n ≡ x
shape_there s n x e = some_shape s n x e

module _ (s : Shapes) (h : AreLast s) where
  pub seal_is : (i n : ℕ) → slice_get s.complete i ≡ Some n → number_of s n ≡ i
  seal_is i n e = h.once (number_of s n) i n (position_at s.complete n i e) e

  abbrev pub ty_of : ℕ → Ty
  ty_of n = type_of s (shape_of s n) n

  abbrev size : ℕ → ℕ
  size n = size_of s n

  -- the size of an earlier type, by its number
  earlier_size : (done ns : List ℕ) → done ++ ns ≡ s.complete → (p : ℕ) → IsEarlier s (length done) p
      → slice_index (map size done) (number_of s p) ≡ size p
  earlier_size done ns e p k =
      let same : number_of s p ≡ k.0 = seal_is k.0 p k.2 in
      let there : slice_get (done ++ ns) k.0 ≡ Some p = subst (λ ns. slice_get ns k.0 ≡ Some p) (sym e) k.2 in
      let own = of_front done ns k.0 p k.1 there in
      let sized : slice_get (map size done) k.0 ≡ Some (size p) = slice_get-map size done k.0 ∙ ap (λ o. option_map size o) own in
      ap (slice_index (map size done)) same ∙ get_or_from_slice_get (map size done) k.0 (size p) 0 sized

  earlier_sizes : (done ns : List ℕ) → done ++ ns ≡ s.complete → (ms : List Member) → Each (IsEarlier s (length done)) (map (λ (m : Member). m.shape) ms)
      → leaves_together (slice_index (map size done)) (map (λ (m : Member). number_of s m.shape) ms) ≡ leaves_together size (map (λ (m : Member). m.shape) ms)
  earlier_sizes done ns e [] k = refl
  earlier_sizes done ns e (m ∷ ms) k =
      (let one = earlier_size done ns e m.shape k.0 in let rest = earlier_sizes done ns e ms k.1 in rw (one, rest) refl)

  count_by : (done ns : List ℕ) → done ++ ns ≡ s.complete → (n : ℕ) (x : Shape) → IsMadeOf s (length done) n x
      → leaf_count (slice_index (map size done)) (type_of s x n) ≡ size n
  count_by done ns e n (shape.whole kind) m = sym m
  count_by done ns e n (pointer to) m = sym m
  count_by done ns e n (array of (Some count)) m = ap (λ k. count * k) (earlier_size done ns e of m.0) ∙ sym m.2
  count_by done ns e n (array of None) m = absurd m
  count_by done ns e n (structure number) m = earlier_sizes done ns e (members_of s n) m.0 ∙ sym m.2
  count_by done ns e n void m = absurd m
  count_by done ns e n (function r ps) m = absurd m

  count_of : (done ns : List ℕ) (n : ℕ) → done ++ n ∷ ns ≡ s.complete → leaf_count (slice_index (map size done)) (ty_of n) ≡ size n
  count_of done ns n e =
      let at : slice_get s.complete (length done) ≡ Some n = subst (λ ns. slice_get ns (length done) ≡ Some n) e (behind_end done n ns) in
      let made : IsMade s (length done) n = h.made (length done) n at in
      subst (λ x. leaf_count (slice_index (map size done)) (type_of s x n) ≡ size n) (sym (shape_there s n made.shape made.is))
      (count_by done (n ∷ ns) e n made.shape made.made)

  own_counts : (done ns : List ℕ) (more : List Ty) → done ++ ns ≡ s.complete → Each IsPointerType more
      → Counts (map size done) (map ty_of ns ++ more) (map size ns ++ ones more)
  own_counts done [] more e p = pointers_count (map size done) more p
  own_counts done (n ∷ ns) more e p = (
    count_of done ns n e,
    subst (λ ks. Counts ks (map ty_of ns ++ more) (map size ns ++ ones more)) (map_push size done n)
        (own_counts (done ++ n ∷ []) ns more (append_assoc done (n ∷ []) ns ∙ e) p),
  )

  pub added : Adds (length (own_types s)) (own_types s) (sealed_types s).types
  added = pointers_added (length (own_types s)) 0 (own_types s) (record { types = own_types s; pointers = [] })

  pub all_counts : leaf_counts (sealed_types s).types ≡ map size s.complete ++ ones added.more
  all_counts =
      ap leaf_counts added.is ∙ counted [] (own_types s ++ added.more) (map size s.complete ++ ones added.more) (own_counts [] s.complete added.more refl added.pointers)

  -- the leaves of a text's own type
  pub own_leaves : (i n : ℕ) → slice_get s.complete i ≡ Some n → leaves_of (sealed_types s).types i ≡ size n
  own_leaves i n e =
      let sized : slice_get (map size s.complete) i ≡ Some (size n) = slice_get-map size s.complete i ∙ ap (λ o. option_map size o) e in
      ap (λ ks. slice_index ks i) all_counts
      ∙ get_or_from_slice_get (map size s.complete ++ ones added.more) i (size n) 0 (in_front (map size s.complete) (ones added.more) i (size n) sized)
