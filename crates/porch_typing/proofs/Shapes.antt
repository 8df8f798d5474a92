-- Types go on: a type is added, and a struct is completed by its members.
use Rattle.std.proofs.Common.{◌≡◌, ◌≢◌, ◌≤◌, ◌⊎◌, inl, inr, ℕ, zero, suc, ◌+◌, List, [], ◌∷◌, ◌++◌, length, refl, sym, ap, subst, ◌∙◌, arith, append_assoc, append-nil, Option, Some, None, Bool, true, false}
use Rattle.std.proofs.lemmas.Bool.Decides.{eqb_tells}
use Rattle.std.proofs.lemmas.Bool.{and_parts, eqb-true}
use Rattle.std.proofs.lemmas.Option.{slice_get_within, slice_get-get_or}
use Rattle.std.proofs.lemmas.List.{length-append}
use Rattle.std.specs.Prelude.{slice_get, nat_eq, get_or}
use Rattle.std.specs.Option.{option_map, option_map_or}
use Rattle.porch_types.specs.declared.shapes.Kind.{Kind}
use Rattle.porch_types.specs.declared.shapes.Kind.TheVariants.{Char, UChar, Short, UShort, Int, UInt, Long, ULong}
use Rattle.porch_types.specs.Kinds.{kind_number}
use Rattle.porch_check.specs.Shapes.{Shape, void, pointer, array, structure, function, Member, Row, Shapes, kind_eq, count_eq, shape_eq, row_of, shape_of, leaves_of, members_of, leaves_in, with_complete, with_row, place_in, numbered_at, numbered, with_struct, completed, VOID}
use Rattle.porch_check.specs.Shapes as shape
use Rattle.porch_typing.specs.Shapes.{Each, IsKnown, IsShape, parts_of, AreShapes, ComeTo, AreOnce, GoOn}
use Rattle.porch_typing.proofs.Lists.{bytes_same, in_front, front_same, at_end, one_more, set_same, set_other, set_length, each_weaker}

-- What is read of a row.

some_shape : (o : Option Row) (x : Shape) → option_map (λ (r : Row). r.shape) o ≡ Some x → option_map_or (λ (r : Row). r.shape) o void ≡ x
some_shape None x e = absurd (cc)
some_shape (Some r) x e = cc

pub shape_is : (s : Shapes) (n : ℕ) (x : Shape) → IsShape s n x → shape_of s n ≡ x
shape_is s n x e = some_shape (row_of s n) x e

shape_some : (o : Option Row) (x : Shape) → void ≢ x → option_map_or (λ (r : Row). r.shape) o void ≡ x → option_map (λ (r : Row). r.shape) o ≡ Some x
shape_some None x other e = absurd (other e)
shape_some (Some r) x other e = ap (λ x. Some x) e

-- any type but void
pub is_shape : (s : Shapes) (n : ℕ) (x : Shape) → void ≢ x → shape_of s n ≡ x → IsShape s n x
is_shape s n x other e = shape_some (row_of s n) x other e

shape_there : (o : Option Row) (r : Row) → o ≡ Some r → option_map (λ (r : Row). r.shape) o ≡ Some (option_map_or (λ (r : Row). r.shape) o void)
shape_there None r e = absurd (cc)
shape_there (Some q) r e = refl

pub known_row : (s : Shapes) (n : ℕ) → IsKnown s n → (r : Row) × (row_of s n ≡ Some r)
known_row s n h = (get_or s.rows n none, slice_get-get_or s.rows n none h)
  where
    none : Row
    none = record { shape = void; leaves = None; members = []; awaited = false }

pub known_shape : (s : Shapes) (n : ℕ) (x : Shape) → IsKnown s n → shape_of s n ≡ x → IsShape s n x
known_shape s n x h e = let r = known_row s n h in shape_there (row_of s n) r.0 r.1 ∙ ap (λ x. Some x) e

row_there : (o : Option Row) (x : Shape) → option_map (λ (r : Row). r.shape) o ≡ Some x → (r : Row) × (o ≡ Some r) × (r.shape ≡ x)
row_there None x e = absurd (cc)
row_there (Some r) x e = (r, refl, cc)

pub shape_known : (s : Shapes) (n : ℕ) (x : Shape) → IsShape s n x → IsKnown s n
shape_known s n x e = let r = row_there (row_of s n) x e in slice_get_within s.rows n r.0 r.1

pub one_shape : (s : Shapes) (n : ℕ) (x y : Shape) → IsShape s n x → IsShape s n y → x ≡ y
one_shape s n x y a b = cc

leaves_there : (o : Option Row) (k : ℕ) → option_map_or (λ (r : Row). r.leaves) o None ≡ Some k → (r : Row) × (o ≡ Some r) × (r.leaves ≡ Some k)
leaves_there None k e = absurd (cc)
leaves_there (Some r) k e = (r, refl, e)

pub complete_row : (s : Shapes) (n k : ℕ) → leaves_of s n ≡ Some k → (r : Row) × (row_of s n ≡ Some r) × (r.leaves ≡ Some k)
complete_row s n k e = leaves_there (row_of s n) k e

pub complete_known : (s : Shapes) (n k : ℕ) → leaves_of s n ≡ Some k → IsKnown s n
complete_known s n k e = let r = complete_row s n k e in slice_get_within s.rows n r.0 r.1

-- Going on.

pub stay : (last s : Shapes) → AreShapes s → GoOn last s s
stay last s h = record { are = h; longer = omega arith; kept = λ n x e. e; back = λ c. c }

pub go_further : (last s t u : Shapes) → GoOn last s t → GoOn last t u → GoOn last s u
go_further last s t u a b =
    let p = a.longer in let q = b.longer in
    record {
      are = b.are;
      longer = omega (arith, p, q);
      kept = λ n x e. b.kept n x (a.kept n x e);
      back = λ c. a.back (b.back c);
    }

pub known_on : (last s t : Shapes) (n : ℕ) → GoOn last s t → IsKnown s n → IsKnown t n
known_on last s t n g h = let p = g.longer in omega (arith, p, h)

-- A type is added.

module _ (last s : Shapes) (r : Row) (h : AreShapes s) (parts : Each (IsKnown s) (parts_of r.shape)) (bare : r.members ≡ []) where
  abbrev t : Shapes
  t = with_row r s

  same_row : (n : ℕ) → IsKnown s n → row_of t n ≡ row_of s n
  same_row n k = front_same s.rows (r ∷ []) n k

  more_known : (n : ℕ) → IsKnown s n → IsKnown t n
  more_known n k = omega (arith, k, length-append s.rows (r ∷ []))

  still : (n : ℕ) (x : Shape) → IsShape s n x → IsShape t n x
  still n x e = ap (λ o. option_map (λ (r : Row). r.shape) o) (same_row n (shape_known s n x e)) ∙ e

  -- an old row, or the new one
  which : (n : ℕ) (q : Row) → row_of t n ≡ Some q → (row_of s n ≡ Some q) ⊎ ((n ≡ length s.rows) × (r ≡ q))
  which n q e = elim (one_more s.rows r q n e) [ inl a ↦ inl a.1 | inr b ↦ inr b ]

  listed_in : (o : Option ℕ) (n : ℕ) (ns : List ℕ) (i m : ℕ) → slice_get ns i ≡ Some m → slice_get (with_complete n o ns) i ≡ Some m
  listed_in None n ns i m e = e
  listed_in (Some k) n ns i m e = in_front ns (n ∷ []) i m e

  listed_last : (o : Option ℕ) (n k : ℕ) (ns : List ℕ) → o ≡ Some k → (i : ℕ) × (slice_get (with_complete n o ns) i ≡ Some n)
  listed_last None n k ns e = absurd (cc)
  listed_last (Some j) n k ns e = (length ns, at_end ns n)

  complete_more : (o : Option ℕ) (n : ℕ) (ns : List ℕ) → (more : List ℕ) × (with_complete n o ns ≡ ns ++ more)
  complete_more None n ns = ([], sym (append-nil ns))
  complete_more (Some k) n ns = (n ∷ [], refl)

  listed : (n k : ℕ) → leaves_of t n ≡ Some k → (i : ℕ) × (slice_get t.complete i ≡ Some n)
  listed n k e =
      let q = complete_row t n k e in
      elim (which n q.0 q.1) [
        | inl a ↦ (let old : leaves_of s n ≡ Some k = rw a q.2 in
            let i = h.listed n k old in (i.0, listed_in r.leaves (length s.rows) s.complete i.0 n i.1))
        | inr b ↦ (let own : r.leaves ≡ Some k = ap (λ (x : Row). x.leaves) b.1 ∙ q.2 in
            subst (λ m. (i : ℕ) × (slice_get t.complete i ≡ Some m)) (sym b.0) (listed_last r.leaves (length s.rows) k s.complete own))
      ]

  parts_known : (n : ℕ) (x : Shape) → IsShape t n x → Each (IsKnown t) (parts_of x)
  parts_known n x e =
      let q = row_there (row_of t n) x e in
      elim (which n q.0 q.1) [
        | inl a ↦ (let old : IsShape s n x = rw a (ap (λ x. Some x) q.2) in
            each_weaker (IsKnown s) (IsKnown t) (parts_of x) more_known (h.parts n x old))
        | inr b ↦ (let own : r.shape ≡ x = ap (λ (x : Row). x.shape) b.1 ∙ q.2 in
            subst (λ x. Each (IsKnown t) (parts_of x)) own (each_weaker (IsKnown s) (IsKnown t) (parts_of r.shape) more_known parts))
      ]

  abbrev HasKnown : Option Row → Type 0
  HasKnown o = Each (λ (m : Member). IsKnown t m.shape) (option_map_or (λ (r : Row). r.members) o [])

  old_members : (n : ℕ) → HasKnown (row_of s n)
  old_members n = each_weaker (λ (m : Member). IsKnown s m.shape) (λ (m : Member). IsKnown t m.shape) (members_of s n) (λ m k. more_known m.shape k) (h.members n)

  members_known : (n : ℕ) → Each (λ (m : Member). IsKnown t m.shape) (members_of t n)
  members_known n = by (row_of t n) refl
    where
      by : (o : Option Row) → row_of t n ≡ o → HasKnown o
      by None e = tt
      by (Some q) e =
          elim (which n q e) [
            | inl a ↦ subst (λ o. HasKnown o) a (old_members n)
            | inr b ↦ subst (λ (q : Row). HasKnown (Some q)) b.1 (subst (λ ms. Each (λ (m : Member). IsKnown t m.shape) ms) (sym bare) tt)
          ]

  bare_still : (n : ℕ) → leaves_of t n ≡ None → members_of t n ≡ []
  bare_still n = by (row_of t n) refl
    where
      by : (o : Option Row) → row_of t n ≡ o → option_map_or (λ (r : Row). r.leaves) o None ≡ None → option_map_or (λ (r : Row). r.members) o [] ≡ []
      by None e none = refl
      by (Some q) e none =
          elim (which n q e) [
            | inl a ↦ (let old : leaves_of s n ≡ None = ap (λ o. option_map_or (λ (r : Row). r.leaves) o None) a ∙ none in
                sym (ap (λ o. option_map_or (λ (r : Row). r.members) o []) a) ∙ h.bare n old)
            | inr b ↦ sym (ap (λ (q : Row). q.members) b.1) ∙ bare
          ]

  pub row_added : GoOn last s t
  row_added =
      let longer : length s.rows ≤ length t.rows = omega (arith, length-append s.rows (r ∷ [])) in
      let kinds = h.kinds in
      record {
        are = record {
          kinds = omega (arith, kinds, longer);
          void = still VOID void h.void;
          listed = listed;
          parts = parts_known;
          members = members_known;
          bare = bare_still;
        };
        longer = longer;
        kept = still;
        back = λ c. record {
          shapes = λ n x e. c.shapes n x (still n x e);
          rows = λ n k e.
              (let same = same_row n (complete_known s n k e) in
              let there : leaves_of t n ≡ Some k = rw same e in c.rows n k there ∙ same);
          complete =
              let own = complete_more r.leaves (length s.rows) s.complete in
              let rest = c.complete in
              (own.0 ++ rest.0, rest.1 ∙ ap (λ (ns : List ℕ). ns ++ rest.0) own.1 ∙ append_assoc s.complete own.0 rest.0);
        };
      }

-- Equal types are one.

kind_back : ℕ → Kind
kind_back zero = Char
kind_back (suc zero) = UChar
kind_back (suc (suc zero)) = Short
kind_back (suc (suc (suc zero))) = UShort
kind_back (suc (suc (suc (suc zero)))) = Int
kind_back (suc (suc (suc (suc (suc zero))))) = UInt
kind_back (suc (suc (suc (suc (suc (suc zero)))))) = Long
kind_back n = ULong

kind_there : (a : Kind) → kind_back (kind_number a) ≡ a
unfolding kind_back
kind_there Char = refl
kind_there UChar = refl
kind_there Short = refl
kind_there UShort = refl
kind_there Int = refl
kind_there UInt = refl
kind_there Long = refl
kind_there ULong = refl

pub kind_same : (a b : Kind) → kind_number a ≡ kind_number b → a ≡ b
kind_same a b e = sym (kind_there a) ∙ ap kind_back e ∙ kind_there b

count_same : (m n : Option ℕ) → count_eq m n ≡ true → m ≡ n
count_same None None e = refl
count_same (Some a) (Some b) e = ap (λ n. Some n) (eqb-true a b e)
count_same None (Some b) e = absurd (cc)
count_same (Some a) None e = absurd (cc)

shape_same : (x y : Shape) → shape_eq x y ≡ true → x ≡ y
shape_same void void e = refl
shape_same (shape.whole a) (shape.whole b) e = ap (λ k. shape.whole k) (kind_same a b (eqb-true (kind_number a) (kind_number b) e))
shape_same (pointer a) (pointer b) e = ap (λ n. pointer n) (eqb-true a b e)
shape_same (array a m) (array b n) e =
    let p = and_parts (nat_eq a b) (count_eq m n) e in
    let same_of = eqb-true a b p.0 in let same_count = count_same m n p.1 in rw (same_of, same_count) refl
shape_same (structure a) (structure b) e = ap (λ n. structure n) (eqb-true a b e)
shape_same (function a ps) (function b qs) e =
    let p = and_parts (nat_eq a b) (Rattle.std.specs.Str.bytes_eq ps qs) e in
    let same_result = eqb-true a b p.0 in let same_params = bytes_same ps qs p.1 in rw (same_result, same_params) refl
shape_same x y e = absurd (cc)

abbrev IsPlaceOf : Shape → List Row → (n i : ℕ) → Type 0
IsPlaceOf x rs n i = (j : ℕ) × (i ≡ n + j) × (option_map (λ (r : Row). r.shape) (slice_get rs j) ≡ Some x)

place_by : (x : Shape) (r : Row) (rs : List Row) (n i : ℕ) → (place_in x rs (suc n) ≡ Some i → IsPlaceOf x rs (suc n) i)
    → (b : Bool) → shape_eq x r.shape ≡ b → place_in x (r ∷ rs) n ≡ Some i → IsPlaceOf x (r ∷ rs) n i
place_by x r rs n i further true same e =
    let here : Some n ≡ Some i = rw same at e in
    let own : n ≡ i = cc in (0, omega (arith, own), ap (λ x. Some x) (sym (shape_same x r.shape same)))
place_by x r rs n i further false same e =
    let there : place_in x rs (suc n) ≡ Some i = rw same at e in
    let rest = further there in let away = rest.1 in (suc rest.0, omega (arith, away), rest.2)

place_found : (x : Shape) (rs : List Row) (n i : ℕ) → place_in x rs n ≡ Some i → IsPlaceOf x rs n i
place_found x [] n i e = absurd (cc)
place_found x (r ∷ rs) n i e = place_by x r rs n i (place_found x rs (suc n) i) (shape_eq x r.shape) refl e

-- the number of a type, which was there or is added
pub record IsNumbered (last s : Shapes) (x : Shape) (r : ℕ × Shapes) : Type 0 where
  pub goes : GoOn last s r.1
  pub shape : IsShape r.1 r.0 x

pub numbers : (last s : Shapes) (x : Shape) → AreShapes s → Each (IsKnown s) (parts_of x) → IsNumbered last s x (numbered x s)
numbers last s x h parts = by (place_in x s.rows 0) refl
  where
    by : (o : Option ℕ) → place_in x s.rows 0 ≡ o → IsNumbered last s x (numbered_at o x s)
    by (Some i) e = (let j = place_found x s.rows 0 i e in let same : i ≡ j.0 = (let k = j.1 in omega (arith, k)) in
        record { goes = stay last s h; shape = subst (λ n. IsShape s n x) (sym same) j.2 })
    by None e = record {
      goes = row_added last s (record { shape = x; leaves = leaves_in s x; members = []; awaited = false }) h parts refl;
      shape = ap (λ o. option_map (λ (r : Row). r.shape) o) (at_end s.rows _);
    }

pub new_struct : (last s : Shapes) (awaited : Bool) → AreShapes s
    → GoOn last s (with_struct awaited s).1 × IsShape (with_struct awaited s).1 (length s.rows) (structure (length s.rows))
new_struct last s awaited h = (
  row_added last s (record { shape = structure (length s.rows); leaves = None; members = []; awaited = awaited }) h tt refl,
  ap (λ o. option_map (λ (r : Row). r.shape) o) (at_end s.rows _),
)

-- A struct is completed. It wasn't before, since each type is completed once.

module _ (last s : Shapes) (x leaves : ℕ) (ms : List Member) (once : AreOnce last) (h : AreShapes s) (struct : IsShape s x (structure x))
    (members : Each (λ (m : Member). IsKnown s m.shape) ms) where
  abbrev u : Shapes
  u = completed x ms leaves s

  abbrev whole_row : Row
  whole_row = record { shape = structure x; leaves = Some leaves; members = ms; awaited = false }

  same_length : length u.rows ≡ length s.rows
  same_length = set_length s.rows x whole_row

  other_row : (n : ℕ) → n ≢ x → row_of u n ≡ row_of s n
  other_row n ne = set_other s.rows x n whole_row ne

  own_row : row_of u x ≡ Some whole_row
  own_row = set_same s.rows x whole_row (shape_known s x (structure x) struct)

  own_shape : IsShape u x (structure x)
  own_shape = ap (λ o. option_map (λ (r : Row). r.shape) o) own_row

  known_still : (n : ℕ) → IsKnown s n → IsKnown u n
  known_still n k = omega (arith, k, same_length)

  shape_still : (n : ℕ) (y : Shape) → IsShape s n y → IsShape u n y
  shape_still n y e =
      elim (eqb_tells n x) [
        | inl w ↦ (let at_x : IsShape s x y = subst (λ n. IsShape s n y) w.1 e in
            let same : structure x ≡ y = one_shape s x (structure x) y struct at_x in
            subst (λ n. IsShape u n y) (sym w.1) (subst (λ y. IsShape u x y) same own_shape))
        | inr w ↦ ap (λ o. option_map (λ (r : Row). r.shape) o) (other_row n w.1) ∙ e
      ]

  shape_before : (n : ℕ) (y : Shape) → IsShape u n y → IsShape s n y
  shape_before n y e =
      elim (eqb_tells n x) [
        | inl w ↦ (let at_x : IsShape u x y = subst (λ n. IsShape u n y) w.1 e in
            let same : structure x ≡ y = one_shape u x (structure x) y own_shape at_x in
            subst (λ n. IsShape s n y) (sym w.1) (subst (λ y. IsShape s x y) same struct))
        | inr w ↦ ap (λ o. option_map (λ (r : Row). r.shape) o) (sym (other_row n w.1)) ∙ e
      ]

  listed_still : (n k : ℕ) → leaves_of u n ≡ Some k → (i : ℕ) × (slice_get u.complete i ≡ Some n)
  listed_still n k e =
      elim (eqb_tells n x) [
        | inl w ↦ (length s.complete, subst (λ n. slice_get u.complete (length s.complete) ≡ Some n) (sym w.1) (at_end s.complete x))
        | inr w ↦ (let old : leaves_of s n ≡ Some k = ap (λ o. option_map_or (λ (r : Row). r.leaves) o None) (sym (other_row n w.1)) ∙ e in
            let i = h.listed n k old in (i.0, in_front s.complete (x ∷ []) i.0 n i.1))
      ]

  members_still : (n : ℕ) → Each (λ (m : Member). IsKnown u m.shape) (members_of u n)
  members_still n =
      elim (eqb_tells n x) [
        | inl w ↦ subst (λ n. Each (λ (m : Member). IsKnown u m.shape) (members_of u n)) (sym w.1)
            (subst (λ o. Each (λ (m : Member). IsKnown u m.shape) (option_map_or (λ (r : Row). r.members) o [])) (sym own_row) (still_known ms members))
        | inr w ↦ subst (λ o. Each (λ (m : Member). IsKnown u m.shape) (option_map_or (λ (r : Row). r.members) o [])) (sym (other_row n w.1)) (still_known (members_of s n) (h.members n))
      ]
    where
      still_known : (ms : List Member) → Each (λ (m : Member). IsKnown s m.shape) ms → Each (λ (m : Member). IsKnown u m.shape) ms
      still_known ms e = each_weaker (λ (m : Member). IsKnown s m.shape) (λ (m : Member). IsKnown u m.shape) ms (λ m k. known_still m.shape k) e

  bare_now : (n : ℕ) → leaves_of u n ≡ None → members_of u n ≡ []
  bare_now n e =
      elim (eqb_tells n x) [
        | inl w ↦ (let at_x : leaves_of u x ≡ None = subst (λ n. leaves_of u n ≡ None) w.1 e in
            let own : leaves_of u x ≡ Some leaves = ap (λ o. option_map_or (λ (r : Row). r.leaves) o None) own_row in absurd (cc))
        | inr w ↦ (let same = other_row n w.1 in
            let old : leaves_of s n ≡ None = ap (λ o. option_map_or (λ (r : Row). r.leaves) o None) (sym same) ∙ e in
            ap (λ o. option_map_or (λ (r : Row). r.members) o []) same ∙ h.bare n old)
      ]

  -- what was complete is another type
  not_before : (n k : ℕ) → ComeTo u last → leaves_of s n ≡ Some k → n ≢ x
  not_before n k c e same =
      let i = h.listed n k e in
      let more = c.complete in
      let before : slice_get last.complete i.0 ≡ Some x =
      subst (λ ns. slice_get ns i.0 ≡ Some x) (sym more.1)
      (in_front u.complete more.0 i.0 x (in_front s.complete (x ∷ []) i.0 x (i.1 ∙ ap (λ n. Some n) same))) in
      let now : slice_get last.complete (length s.complete) ≡ Some x =
      subst (λ ns. slice_get ns (length s.complete) ≡ Some x) (sym more.1)
      (in_front u.complete more.0 (length s.complete) x (at_end s.complete x)) in
      let one = once i.0 (length s.complete) x before now in
      let less = slice_get_within s.complete i.0 n i.1 in
      omega (arith, one, less)

  pub struct_completed : GoOn last s u
  struct_completed =
      let kinds = h.kinds in
      record {
        are = record {
          kinds = omega (arith, kinds, same_length);
          void = shape_still VOID void h.void;
          listed = listed_still;
          parts = λ n y e. each_weaker (IsKnown s) (IsKnown u) (parts_of y) known_still (h.parts n y (shape_before n y e));
          members = members_still;
          bare = bare_now;
        };
        longer = omega (arith, same_length);
        kept = shape_still;
        back = λ c. record {
          shapes = λ n y e. c.shapes n y (shape_still n y e);
          rows = λ n k e.
              (let same = other_row n (not_before n k c e) in
              let there : leaves_of u n ≡ Some k = ap (λ o. option_map_or (λ (r : Row). r.leaves) o None) same ∙ e in
              c.rows n k there ∙ same);
          complete = (let more = c.complete in (x ∷ more.0, more.1 ∙ append_assoc s.complete (x ∷ []) more.0));
        };
      }
