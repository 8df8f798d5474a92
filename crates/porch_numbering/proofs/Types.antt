-- The last types are a list of types, and what a program has at the end of a text.
use Rattle.std.proofs.Common.{◌≡◌, ◌<◌, ◌+◌, ℕ, zero, suc, List, [], ◌∷◌, ◌++◌, length, map, take, refl, sym, ap, subst, ◌∙◌, arith, inl, inr, Option, Some, None}
use Rattle.std.proofs.lemmas.List.{length-append}
use Rattle.std.proofs.lemmas.List.Elements.{All-nil, All-cons}
use Rattle.std.proofs.lemmas.Option.{slice_get-map, get_or_from_slice_get}
use Rattle.std.specs.Prelude.{slice_get, slice_index, All}
use Rattle.std.specs.Option.{option_map}
use Rattle.porch_types.specs.declared.shapes.Kind.{Kind}
use Rattle.porch_types.specs.declared.shapes.Kind.TheVariants.{Char, UChar, Short, UShort, Int, UInt, Long, ULong}
use Rattle.porch_types.specs.declared.shapes.Ty.{Ty}
use Rattle.porch_types.specs.declared.shapes.Ty.TheVariants.{Whole}
use Rattle.porch_types.specs.Kinds.{kind_number}
use Rattle.porch_types.specs.Leaves.{parts_of, width_of, leaves_of, leaves_together, kind_types, IsFormed, IsTypes}
use Rattle.porch_typed.specs.Typed.{type_of_kind}
use Rattle.porch_check.specs.Shapes.{Shape, void, pointer, array, structure, function, Member, Shapes, shape_of, size_of, members_of}
use Rattle.porch_check.specs.Shapes as shape
use Rattle.porch_check.specs.Sealing.{number_of, type_of, own_types, sealed_types}
use Rattle.porch_typing.specs.Shapes.{Each, IsShape}
use Rattle.porch_typing.specs.Ends.{End, IsSized, IsComplete, IsMemberAt, IsEnd, seal}
use Rattle.porch_numbering.specs.Lasts.{IsEarlier, member_types, IsMadeOf, IsMade, AreLast}
use Rattle.porch_numbering.proofs.Lists.{in_front, in_either}
use Rattle.porch_numbering.proofs.Pointers.{IsPointerType}
use Rattle.porch_numbering.proofs.Sizes.{ones, shape_there, seal_is, ty_of, added, all_counts, own_leaves}

mapped_length : {A B : Type 0} (f : A → B) (xs : List A) → length (map f xs) ≡ length xs
mapped_length f [] = refl
mapped_length f (x ∷ xs) = ap suc (mapped_length f xs)

each_at : {A : Type 0} (P : A → Type 0) (xs : List A) (i : ℕ) (x : A) → Each P xs → slice_get xs i ≡ Some x → P x
each_at P [] i x h e = absurd (cc)
each_at P (y ∷ xs) zero x h e = let same : y ≡ x = cc in subst (λ z. P z) same h.0
each_at P (y ∷ xs) (suc i) x h e = each_at P xs i x h.1 e

one_at : (more : List Ty) (j : ℕ) (t : Ty) → slice_get more j ≡ Some t → slice_get (ones more) j ≡ Some 1
one_at [] j t e = absurd (cc)
one_at (x ∷ more) zero t e = refl
one_at (x ∷ more) (suc j) t e = one_at more j t e

behind : {A : Type 0} (xs ys : List A) (j : ℕ) (x : A) → slice_get ys j ≡ Some x → slice_get (xs ++ ys) (length xs + j) ≡ Some x
behind [] ys j x e = ap (slice_get ys) (omega arith) ∙ e
behind (z ∷ xs) ys j x e = let far : length (z ∷ xs) + j ≡ suc (length xs + j) = omega arith in ap (slice_get (z ∷ (xs ++ ys))) far ∙ behind xs ys j x e

module _ (s : Shapes) (h : AreLast s) where
  abbrev types : List Ty
  types = (sealed_types s).types

  abbrev own : List Ty
  own = own_types s

  own_at : (i n : ℕ) → slice_get s.complete i ≡ Some n → slice_get own i ≡ Some (ty_of s h n)
  own_at i n e = slice_get-map (ty_of s h) s.complete i ∙ ap (λ o. option_map (ty_of s h) o) e

  pub type_at : (i n : ℕ) → slice_get s.complete i ≡ Some n → slice_get types i ≡ Some (ty_of s h n)
  type_at i n e =
      subst (λ ts. slice_get ts i ≡ Some (ty_of s h n)) (sym (added s h).is) (in_front own (added s h).more i (ty_of s h n) (own_at i n e))

  -- a type of the text itself is one of these
  of_map : (o : Option ℕ) (t : Ty) → option_map (ty_of s h) o ≡ Some t → (n : ℕ) × (o ≡ Some n) × (ty_of s h n ≡ t)
  of_map None t e = absurd (cc)
  of_map (Some n) t e = (n, refl, cc)

  own_from : (i : ℕ) (t : Ty) → slice_get own i ≡ Some t → (n : ℕ) × (slice_get s.complete i ≡ Some n) × (ty_of s h n ≡ t)
  own_from i t e = of_map (slice_get s.complete i) t (sym (slice_get-map (ty_of s h) s.complete i) ∙ e)

  seals_below : (place : ℕ) (ms : List Member) → Each (IsEarlier s place) (map (λ (m : Member). m.shape) ms)
      → All (λ part. part < place) (map (λ (m : Member). number_of s m.shape) ms)
  seals_below place [] k = All-nil (λ part. part < place)
  seals_below place (m ∷ ms) k =
      All-cons (λ part. part < place) (number_of s m.shape) (map (λ (m : Member). number_of s m.shape) ms)
      (let less = (k.0).1 in let same = seal_is s h (k.0).0 m.shape (k.0).2 in omega (arith, less, same)) (seals_below place ms k.1)

  formed_by : (i n : ℕ) (x : Shape) → IsMadeOf s i n x → All (λ part. part < i) (parts_of (type_of s x n)) × (0 < width_of (type_of s x n))
  formed_by i n (shape.whole kind) m = (All-nil (λ part. part < i), omega arith)
  formed_by i n (pointer to) m = (All-nil (λ part. part < i), omega arith)
  formed_by i n (array of (Some count)) m =
      (All-cons (λ part. part < i) (number_of s of) [] (let less = (m.0).1 in let same = seal_is s h (m.0).0 of (m.0).2 in omega (arith, less, same)) (All-nil (λ part. part < i)), m.1)
  formed_by i n (array of None) m = absurd m
  formed_by i n (structure number) m = (
    seals_below i (members_of s n) m.0,
    (let some = m.1 in omega (arith, some, mapped_length (λ (m : Member). m.shape) (members_of s n), mapped_length (λ (m : Member). number_of s m.shape) (members_of s n))),
  )
  formed_by i n void m = absurd m
  formed_by i n (function r ps) m = absurd m

  own_formed : (i n : ℕ) → slice_get s.complete i ≡ Some n → IsFormed types i (ty_of s h n)
  own_formed i n e =
      let made : IsMade s i n = h.made i n e in
      let parts = formed_by i n made.shape made.made in
      let size = own_leaves s h i n e in
      let small = made.small in
      subst (λ x. IsFormed types i (type_of s x n)) (sym (shape_there s n made.shape made.is))
      (record { earlier = parts.0; occupied = parts.1; small = omega (arith, size, small) })

  pointer_formed : (i : ℕ) (t : Ty) → IsPointerType t → leaves_of types i ≡ 1 → IsFormed types i t
  pointer_formed i t p size =
      subst (λ t. IsFormed types i t) (sym p.1) (record { earlier = All-nil (λ part. part < i); occupied = omega arith; small = omega (arith, size) })

  pointer_leaves : (j : ℕ) (t : Ty) → slice_get (added s h).more j ≡ Some t → leaves_of types (length own + j) ≡ 1
  pointer_leaves j t e =
      let same : length own ≡ length (map (λ n. size_of s n) s.complete) =
      omega (arith, mapped_length (ty_of s h) s.complete, mapped_length (λ n. size_of s n) s.complete) in
      let there = behind (map (λ n. size_of s n) s.complete) (ones (added s h).more) j 1 (one_at (added s h).more j t e) in
      ap (λ k. leaves_of types (k + j)) same ∙ ap (λ ks. slice_index ks (length (map (λ n. size_of s n) s.complete) + j)) (all_counts s h)
      ∙ get_or_from_slice_get (map (λ n. size_of s n) s.complete ++ ones (added s h).more) (length (map (λ n. size_of s n) s.complete) + j) 1 0 there

  formed : (i : ℕ) (t : Ty) → slice_get types i ≡ Some t → IsFormed types i t
  formed i t e =
      elim (in_either own (added s h).more i t (subst (λ ts. slice_get ts i ≡ Some t) (added s h).is e)) [
        | inl a ↦ (let n = own_from i t a in subst (λ t. IsFormed types i t) n.2 (own_formed i n.0 n.1))
        | inr b ↦ (let is = each_at IsPointerType (added s h).more b.0 t (added s h).pointers b.2 in
            pointer_formed i t is (ap (leaves_of types) b.1 ∙ pointer_leaves b.0 t b.2))
      ]

  kind_at : (kind : Kind) → ty_of s h (kind_number kind) ≡ Whole kind
  kind_at kind = ap (λ x. type_of s x (kind_number kind)) (shape_there s (kind_number kind) (shape.whole kind) (h.kinds kind).0)

  kinds_first : take 8 types ≡ kind_types
  kinds_first =
      let first = h.first in
      let list : own ≡ map (ty_of s h) (0 ∷ 1 ∷ 2 ∷ 3 ∷ 4 ∷ 5 ∷ 6 ∷ 7 ∷ first.0) = ap (map (ty_of s h)) first.1 in
      let a = kind_at Char in let b = kind_at UChar in let c = kind_at Short in let d = kind_at UShort in
      let e = kind_at Int in let f = kind_at UInt in let g = kind_at Long in let k = kind_at ULong in
      let all : types ≡ Whole Char ∷ Whole UChar ∷ Whole Short ∷ Whole UShort ∷ Whole Int ∷ Whole UInt ∷ Whole Long ∷ Whole ULong ∷ (map (ty_of s h) first.0 ++ (added s h).more) =
      (added s h).is ∙ ap (λ (ts : List Ty). ts ++ (added s h).more) list ∙ (rw (a, b, c, d, e, f, g, k) refl) in
      ap (take 8) all

  pub are_types : IsTypes types
  are_types =
      let few = h.few in
      let more = (added s h).few in
      record {
        kinds = kinds_first;
        few = (let is = ap length (added s h).is in
            omega (arith, few, more, is, length-append own (added s h).more, mapped_length (ty_of s h) s.complete));
        formed = record { each = formed };
      }

module _ (w : End) (h : AreLast w.last) (same : w.program.types ≡ (sealed_types w.last).types) where
  abbrev s : Shapes
  s = w.last

  made_at : (n k : ℕ) → shape.leaves_of s n ≡ Some k → (i : ℕ) × (slice_get s.complete i ≡ Some n) × IsMade s i n
  made_at n k e = let i = h.listed n k e in (i.0, i.1, h.made i.0 n i.1)

  end_types : (n k : ℕ) (x : Shape) → IsShape s n x → shape.leaves_of s n ≡ Some k → slice_get w.program.types (seal w n) ≡ Some (type_of s x n)
  end_types n k x is e =
      let i = made_at n k e in
      let number = seal_is s h i.0 n i.1 in
      let there : slice_get (sealed_types s).types (seal w n) ≡ Some (ty_of s h n) =
      ap (slice_get (sealed_types s).types) number ∙ type_at s h i.0 n i.1 in
      ap (λ ts. slice_get ts (seal w n)) same ∙ there ∙ ap (λ x. Some (type_of s x n)) (shape_there s n x is)

  sized_by : (i n : ℕ) (x : Shape) → IsMadeOf s i n x → IsSized x
  sized_by i n (shape.whole kind) m = tt
  sized_by i n (pointer to) m = tt
  sized_by i n (array of (Some count)) m = tt
  sized_by i n (array of None) m = absurd m
  sized_by i n (structure number) m = tt
  sized_by i n void m = absurd m
  sized_by i n (function r ps) m = absurd m

  end_sized : (n k : ℕ) (x : Shape) → IsShape s n x → shape.leaves_of s n ≡ Some k → IsSized x
  end_sized n k x is e =
      let i = made_at n k e in
      let made = i.2 in
      let own : made.shape ≡ x = sym (shape_there s n made.shape made.is) ∙ shape_there s n x is in
      subst (λ x. IsSized x) own (sized_by i.0 n made.shape made.made)

  position_first : (kind : Kind) (more : List ℕ) → Rattle.porch_check.specs.Sealing.position_of (kind_number kind) (0 ∷ 1 ∷ 2 ∷ 3 ∷ 4 ∷ 5 ∷ 6 ∷ 7 ∷ more) ≡ type_of_kind kind
  position_first Char more = refl
  position_first UChar more = refl
  position_first Short more = refl
  position_first UShort more = refl
  position_first Int more = refl
  position_first UInt more = refl
  position_first Long more = refl
  position_first ULong more = refl

  end_numbers : (kind : Kind) → seal w (kind_number kind) ≡ type_of_kind kind
  end_numbers kind =
      let first = h.first in
      ap (Rattle.porch_check.specs.Sealing.position_of (kind_number kind)) first.1 ∙ position_first kind first.0

  -- members that are complete

  earlier_complete : (place n : ℕ) → IsEarlier s place n → IsComplete w n
  earlier_complete place n e = let m = h.made e.0 n e.2 in (size_of s n, m.leaves)

  earlier_seal : (place n : ℕ) → IsEarlier s place n → leaves_of w.program.types (seal w n) ≡ size_of s n
  earlier_seal place n e =
      ap (λ ts. leaves_of ts (seal w n)) same ∙ ap (leaves_of (sealed_types s).types) (seal_is s h e.0 n e.2) ∙ own_leaves s h e.0 n e.2

  sizes_together : (place i : ℕ) (ms : List Member) → Each (IsEarlier s place) (map (λ (m : Member). m.shape) ms)
      → leaves_together (size_of s) (take i (map (λ (m : Member). m.shape) ms))
      ≡ leaves_together (leaves_of w.program.types) (take i (map (λ (m : Member). seal w m.shape) ms))
  sizes_together place zero ms k = refl
  sizes_together place (suc i) [] k = refl
  sizes_together place (suc i) (m ∷ ms) k =
      (let one = sym (earlier_seal place m.shape k.0) in let rest = sizes_together place i ms k.1 in rw (one, rest) refl)

  shape_of_member : (ms : List Member) (i : ℕ) (m : Member) → slice_get ms i ≡ Some m → slice_get (map (λ (m : Member). m.shape) ms) i ≡ Some m.shape
  shape_of_member ms i m e = slice_get-map (λ (m : Member). m.shape) ms i ∙ ap (λ o. option_map (λ (m : Member). m.shape) o) e

  members_made : (place n : ℕ) (x : Shape) (number : ℕ) → x ≡ structure number → IsMadeOf s place n x → Each (IsEarlier s place) (member_types s n)
  members_made place n x number e m = (subst (λ x. IsMadeOf s place n x) e m).0

  end_members : (n number k i : ℕ) (m : Member) → IsShape s n (structure number) → shape.leaves_of s n ≡ Some k → slice_get (members_of s n) i ≡ Some m → IsMemberAt w n i m
  end_members n number k i m is e at =
      let made = made_at n k e in
      let own : (made.2).shape ≡ structure number = sym (shape_there s n (made.2).shape (made.2).is) ∙ shape_there s n (structure number) is in
      let earlier = members_made made.0 n (made.2).shape number own (made.2).made in
      record {
        complete = earlier_complete made.0 m.shape (each_at (IsEarlier s made.0) (member_types s n) i m.shape earlier (shape_of_member (members_of s n) i m at));
        begins = h.places n number i m is at ∙ sizes_together made.0 i (members_of s n) earlier;
      }

  pub an_end : IsEnd w
  an_end =
      record {
        once = h.once;
        types = end_types;
        sized = end_sized;
        pointers = λ n to e. (1, h.pointers n to e);
        wholes = h.wholes;
        kinds = λ kind. ((1, (h.kinds kind).1), (h.kinds kind).0);
        numbers = end_numbers;
        members = end_members;
      }
