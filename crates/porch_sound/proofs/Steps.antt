-- Pointers that are stepped stay in their type, and the number of elements between two pointers is a long in each width.
use Rattle.std.proofs.Common.{◌≡◌, ◌<◌, ◌≤◌, ℕ, ◌+◌, ◌-◌, ◌*◌, ◌/◌, ◌+ℤ◌, ◌-ℤ◌, ◌≤ℤ◌, ℤ, pos, negsuc, List, refl, ap, ◌∙◌, arith, Option, Some, None}
use Rattle.std.proofs.lemmas.Bool.Decides.{nat_tests}
use Rattle.std.proofs.lemmas.Int.{ints}
use Rattle.std.proofs.Math.Nat.{mul-div_cancel, le-mul_of_pos_right}
use Rattle.std.specs.Prelude.{⊤, slice_get, nat_lt, nat_eq, if◌then◌else◌, not, ◌&&◌, ◌||◌, int_le, Bool, true, false, IsTrue, Ok, Err}
use Rattle.std.specs.Option.{option_map}
use Rattle.porch_types.specs.declared.parts.Row.{Row}
use Rattle.porch_types.specs.declared.shapes.Ty.{Ty}
use Rattle.porch_types.specs.declared.shapes.Ty.TheVariants.{Pointer, Array}
use Rattle.porch_types.specs.Leaves.{leaves_of, IsFormed}
use Rattle.porch_types.specs.Rows.{IsRow, elements_of_root, elements_of_array, member_of_struct, IsRowAt}
use Rattle.porch_values.specs.declared.acts.Act.TheVariants as act
use Rattle.porch_values.specs.declared.widths.Widths.{Widths}
use Rattle.porch_values.specs.Integers.{is_value_of}
use Rattle.porch_types.specs.declared.shapes.Kind.TheVariants.{Long}
use Rattle.porch_objects.specs.Store.{Home, Value, number, null, pointer, past, indeterminate, Object, Store, object_at, seen}
use Rattle.porch_objects.specs.Pointers.{Position, row_in, position_of, is_shared, element_from, step_from, step, same_home, between, difference}
use Rattle.porch_sound.specs.Typing.{StoreTyping, Points, IsValueOf, IsTypedStore}
use Rattle.porch_sound.specs.Laws.{Gives}
use Rattle.porch_sound.proofs.Lawful.{AreLawful}
use Rattle.porch_sound.proofs.Found.{there_gives, alive}

-- in a range
range_true : (low high z : ℤ) → low ≤ℤ z → z ≤ℤ high → (int_le low z && int_le z high) ≡ true
range_true low high z a b =
    let p : int_le low z ≡ true = grind (arith, ints) in
    let q : int_le z high ≡ true = grind (arith, ints) in
    rw (p, q) refl

by_widths : (n w : Bool) (t u : Bool) → t ≡ true → u ≡ true → ((not n || t) && (not w || u)) ≡ true
by_widths true true t u a b = rw (a, b) refl
by_widths true false t u a b = rw a refl
by_widths false true t u a b = rw b refl
by_widths false false t u a b = refl

-- the difference of two small numbers is a long
long_difference : (widths : Widths) (i j : ℕ) → i ≤ 2147483647 → j ≤ 2147483647 → IsTrue (is_value_of Long widths (pos i -ℤ pos j))
long_difference widths i j a b =
    let narrow = range_true (negsuc 2147483647) (pos 2147483647) (pos i -ℤ pos j) (omega (arith, ints)) (omega (arith, ints)) in
    let wide = range_true (negsuc 9223372036854775807) (pos 9223372036854775807) (pos i -ℤ pos j) (omega (arith, ints)) (omega (arith, ints)) in
    by_widths widths.narrow widths.wide _ _ narrow wide

module _ (types : List Ty) (lawful : AreLawful types) where
  array_few : (ty of n : ℕ) → slice_get types ty ≡ Some (Array of n) → n ≤ 1048576
  array_few ty of n at =
      let f : IsFormed types ty (Array of n) = lawful.are.formed.each ty (Array of n) at in
      let size : leaves_of types ty ≡ n * leaves_of types of = lawful.together ty (Array of n) at in
      let small = f.small in
      let earlier : of < ty = f.earlier 0 0 (omega arith) in
      let known = Rattle.std.proofs.lemmas.Option.slice_get_within types ty (Array of n) at in
      let some : 0 < leaves_of types of = lawful.some of (omega (arith, earlier, known)) in
      let more = le-mul_of_pos_right n some in
      omega (arith, size, small, more)

  -- no row has more elements than an allocation
  row_few : (root count ty first len : ℕ) → count ≤ 2147483647 → IsRow types root count ty first len → len ≤ 2147483647
  row_few root count ty first len few elements_of_root = few
  row_few root count ty first len few (elements_of_array {ty = array} {of = of} row less at) =
      (let h = array_few array of len at in omega (arith, h))
  row_few root count ty first len few (member_of_struct i row less at here) = omega arith

  -- the index of the element that begins at a leaf
  index_is : (L first k leaf : ℕ) → 0 < L → leaf ≡ first + k * L → (leaf - first) / L ≡ k
  index_is L first k leaf some e =
      let d : leaf - first ≡ k * L = omega (arith, e) in ap (λ x. x / L) d ∙ mul-div_cancel k some

  module _ (widths : Widths) (made : StoreTyping) (s : Store) (h : IsTypedStore types widths made s) (ty to : ℕ) (shape : slice_get types ty ≡ Some (Pointer to)) where
    abbrev V : Value → Type 0
    V v = IsValueOf types widths made ty v

    -- a pointer to an element of a row of what is alive
    element_points : (home : Home) (o : Object) (row : Row) (k : ℕ) → object_at s home ≡ Some o → IsRow types o.root.ty o.root.count to row.first row.len → k < row.len
        → Points types widths made ty home (row.first + k * leaves_of types to)
    element_points home o row k e is_row less =
        record {
          to = to;
          shape = shape;
          root = o.root;
          here = (alive types widths made lawful s h home o e).root;
          subobject = (row, record { is_row = is_row; element = (k, less, refl) });
        }

    element_by : (home : Home) (o : Object) (row : Row) (i : ℕ) (until : Option ℕ) (before last : Bool) → object_at s home ≡ Some o
        → IsRow types o.root.ty o.root.count to row.first row.len → 0 < row.len → nat_lt i row.len ≡ before → nat_eq i row.len ≡ last
        → Gives V (if before then Ok (pointer home (row.first + i * leaves_of types to))
        else (if last then Ok (past home (row.first + (i - 1) * leaves_of types to) until) else Err act.Row))
    element_by home o row i until true last e is_row some a b =
        (let less : i < row.len = grind (arith, nat_tests) in element_points home o row i e is_row less)
    element_by home o row i until false true e is_row some a b =
        (let less : i - 1 < row.len = grind (arith, nat_tests) in element_points home o row (i - 1) e is_row less)
    element_by home o row i until false false e is_row some a b = tt

    element_gives : (home : Home) (o : Object) (row : Row) (z : ℤ) → object_at s home ≡ Some o → IsRow types o.root.ty o.root.count to row.first row.len → 0 < row.len
        → Gives V (element_from types to s home row z)
    element_gives home o row (pos i) e is_row some =
        element_by home o row i
        (if is_shared types to (object_at s home) (row.first + (i - 1) * leaves_of types to) then Some s.checkpoints else None)
        (nat_lt i row.len) (nat_eq i row.len) e is_row some refl refl
    element_gives home o row (negsuc n) e is_row some = tt

    -- where a pointer of the type stands, there is a row of what is alive
    record IsFound (home : Home) (leaf : ℕ) (row : Row) : Type 0 where
      pub object : Object
      pub there : object_at s home ≡ Some object
      pub at : IsRowAt types object.root.ty object.root.count leaf to row
      pub few : row.len ≤ 2147483647
      pub some : 0 < row.len
      pub index : (leaf - row.first) / leaves_of types to < row.len

    found : (home : Home) (leaf : ℕ) → (o : Option Object) → object_at s home ≡ o → (row : Row) → row_in types to o leaf ≡ Some row → IsFound home leaf row
    found home leaf None e row r = cc
    found home leaf (Some o) e row r =
        let t = (alive types widths made lawful s h home o e).typed in
        let at = lawful.found o.root.ty o.root.count leaf to row t.known r in
        let k = at.element.0 in
        let less = at.element.1 in
        let known = lawful.known o.root.ty o.root.count leaf to t.known (row, at) in
        let size : 0 < leaves_of types to = lawful.some to known in
        let index = index_is (leaves_of types to) row.first k leaf size at.element.2 in
        record {
          object = o;
          there = e;
          at = at;
          few = row_few o.root.ty o.root.count to row.first row.len t.few at.is_row;
          some = omega (arith, less);
          index = omega (arith, index, less);
        }

    standing : (home : Home) (leaf more : ℕ) (z : ℤ) (row : Option Row) → row_in types to (object_at s home) leaf ≡ row
        → Gives V (step_from types to s
        (option_map (λ (row : Row). let p : Position = record { home = home; row = row; index = (leaf - row.first) / leaves_of types to + more } in p) row) z)
    standing home leaf more z None r = tt
    standing home leaf more z (Some row) r =
        let f = found home leaf (object_at s home) refl row r in
        element_gives home f.object row (pos ((leaf - row.first) / leaves_of types to + more) +ℤ z) f.there f.at.is_row f.some

    from_gives : (p : Value) (z : ℤ) → Gives V (step_from types to s (position_of types to s p) z)
    from_gives (number x) z = tt
    from_gives null z = tt
    from_gives (pointer home leaf) z = standing home leaf 0 z (row_in types to (object_at s home) leaf) refl
    from_gives (past home leaf until) z = standing home leaf 1 z (row_in types to (object_at s home) leaf) refl
    from_gives indeterminate z = tt

    pub step_typed : (p : Value) (z : ℤ) → Gives V (step types to s p z)
    step_typed p z = there_gives V (seen s p) _ (from_gives (seen s p) z)

    -- how far on a pointer stands in its row
    abbrev IsFew : Option Position → Type 0
    IsFew None = ⊤
    IsFew (Some p) = p.index ≤ 2147483647

    standing_few : (home : Home) (leaf more : ℕ) → more ≤ 1 → (row : Option Row) → row_in types to (object_at s home) leaf ≡ row
        → IsFew (option_map (λ (row : Row). let p : Position = record { home = home; row = row; index = (leaf - row.first) / leaves_of types to + more } in p) row)
    standing_few home leaf more one None r = tt
    standing_few home leaf more one (Some row) r =
        let f = found home leaf (object_at s home) refl row r in
        let few = f.few in
        let index = f.index in
        omega (arith, few, index, one)

    position_few : (p : Value) → IsFew (position_of types to s p)
    position_few (number x) = tt
    position_few null = tt
    position_few (pointer home leaf) = standing_few home leaf 0 (omega arith) (row_in types to (object_at s home) leaf) refl
    position_few (past home leaf until) = standing_few home leaf 1 (omega arith) (row_in types to (object_at s home) leaf) refl
    position_few indeterminate = tt

    abbrev IsLong : ℤ → Type 0
    IsLong z = IsTrue (is_value_of Long widths z)

    by_row : (same : Bool) (i j : ℕ) → i ≤ 2147483647 → j ≤ 2147483647 → Gives IsLong (if same then Ok (pos i -ℤ pos j) else Err act.Relation)
    by_row true i j a b = long_difference widths i j a b
    by_row false i j a b = tt

    between_long : (p q : Option Position) → IsFew p → IsFew q → Gives IsLong (between types to p q)
    between_long None q a b = tt
    between_long (Some p) None a b = tt
    between_long (Some p) (Some q) a b =
        by_row (same_home types to p.home q.home && nat_eq p.row.first q.row.first) p.index q.index a b

    pub difference_typed : (p q : Value) → Gives IsLong (difference types to s p q)
    difference_typed p q =
        there_gives IsLong (seen s p) _ (there_gives IsLong (seen s q) _
        (between_long (position_of types to s (seen s p)) (position_of types to s (seen s q)) (position_few (seen s p)) (position_few (seen s q))))
