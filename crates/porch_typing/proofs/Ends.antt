-- What a type of the text is in the program that it comes to.
use Rattle.std.proofs.Common.{◌≡◌, ◌≢◌, ℕ, suc, List, [], ◌∷◌, refl, ap, subst, ◌∙◌, inl, inr, Option, Some, None, Bool, true, false}
use Rattle.std.proofs.lemmas.Option.{slice_get-map}
use Rattle.std.specs.Prelude.{slice_get, map, ⊤}
use Rattle.std.specs.Option.{option_map, option_map_or}
use Rattle.std.specs.Str.{bytes_eq}
use Rattle.porch_types.specs.declared.shapes.Kind.{Kind}
use Rattle.porch_types.specs.declared.shapes.Ty.TheVariants.{Whole, Array}
use Rattle.porch_types.specs.Kinds.{kind_number}
use Rattle.porch_typed.specs.Typed.{type_of_kind, IsWhole, IsPointer, IsPointerTo, IsScalar, IsStruct, IsMember}
use Rattle.porch_check.specs.Shapes.{Shape, void, pointer, array, structure, function, Member, Row, Shapes, row_of, shape_of, leaves_of, members_of, is_complete}
use Rattle.porch_check.specs.Shapes as shape
use Rattle.porch_check.specs.Operators.{member_named}
use Rattle.porch_typing.specs.Shapes.{IsKnown, IsShape, ComeTo}
use Rattle.porch_typing.specs.Ends.{End, IsComplete, IsEnd, seal}
use Rattle.porch_typing.proofs.Shapes.{is_shape, known_shape, complete_known}

module _ (w : End) (h : IsEnd w) where
  abbrev types : List Rattle.porch_types.specs.declared.shapes.Ty.Ty
  types = w.program.types

  pub pointer_to : (n to : ℕ) → IsShape w.last n (pointer to) → IsPointerTo types (seal w n) (seal w to)
  pointer_to n to e = let k = h.pointers n to e in h.types n k.0 (pointer to) e k.1

  pub is_pointer : (n to : ℕ) → IsShape w.last n (pointer to) → IsPointer types (seal w n)
  is_pointer n to e = (seal w to, pointer_to n to e)

  pub kind_seal : (n : ℕ) (kind : Kind) → IsShape w.last n (shape.whole kind) → seal w n ≡ type_of_kind kind
  kind_seal n kind e = ap (seal w) (h.wholes n kind e) ∙ h.numbers kind

  pub kind_whole : (kind : Kind) → IsWhole types (type_of_kind kind)
  kind_whole kind =
      let k = h.kinds kind in
      (kind, subst (λ n. slice_get types n ≡ Some (Whole kind)) (h.numbers kind) (h.types (kind_number kind) (k.0).0 (shape.whole kind) k.1 (k.0).1))

  pub kind_scalar : (kind : Kind) → IsScalar types (type_of_kind kind)
  kind_scalar kind = inl (kind_whole kind)

  pub pointer_scalar : (n to : ℕ) → IsShape w.last n (pointer to) → IsScalar types (seal w n)
  pointer_scalar n to e = inr (is_pointer n to e)

  pub array_is : (n of k : ℕ) (count : Option ℕ) → IsShape w.last n (array of count) → leaves_of w.last n ≡ Some k
      → slice_get types (seal w n) ≡ Some (Array (seal w of) (option_map_or (λ (k : ℕ). k) count 0))
  array_is n of k count e c = h.types n k (array of count) e c

  pub struct_is : (n number k : ℕ) → IsShape w.last n (structure number) → leaves_of w.last n ≡ Some k → IsStruct types (seal w n)
  struct_is n number k e c = (map (λ (m : Member). seal w m.shape) (members_of w.last n), h.types n k (structure number) e c)

  -- a member of a struct by its place among them
  pub member_is : (n number k i : ℕ) (m : Member) → IsShape w.last n (structure number) → leaves_of w.last n ≡ Some k
      → slice_get (members_of w.last n) i ≡ Some m → IsMember types (seal w n) m.leaf (seal w m.shape) × IsComplete w m.shape
  member_is n number k i m e c at =
      let own = h.members n number k i m e c at in (
        record {
          members = map (λ (m : Member). seal w m.shape) (members_of w.last n);
          of_struct = h.types n k (structure number) e c;
          place = i;
          here = slice_get-map (λ (m : Member). seal w m.shape) (members_of w.last n) i ∙ ap (λ o. option_map (λ (m : Member). seal w m.shape) o) at;
          begins = own.begins;
        },
        own.complete,
      )

-- What is complete at a place of the text.

some_of : (o : Option ℕ) → Rattle.std.specs.Prelude.is_some o ≡ true → (k : ℕ) × (o ≡ Some k)
some_of None e = absurd (cc)
some_of (Some k) e = (k, refl)

pub complete_some : (s : Shapes) (n : ℕ) → is_complete s n ≡ true → (k : ℕ) × (leaves_of s n ≡ Some k)
complete_some s n e = some_of (leaves_of s n) e

pub complete_is_known : (s : Shapes) (n : ℕ) → is_complete s n ≡ true → IsKnown s n
complete_is_known s n e = let k = complete_some s n e in complete_known s n k.0 k.1

module _ (w : End) (s : Shapes) (c : ComeTo s w.last) where
  pub leaves_on : (n k : ℕ) → leaves_of s n ≡ Some k → leaves_of w.last n ≡ Some k
  leaves_on n k e = ap (λ o. option_map_or (λ (r : Row). r.leaves) o None) (c.rows n k e) ∙ e

  pub complete_on : (n : ℕ) → is_complete s n ≡ true → IsComplete w n
  complete_on n e = let k = complete_some s n e in (k.0, leaves_on n k.0 k.1)

  pub members_on : (n k : ℕ) → leaves_of s n ≡ Some k → members_of w.last n ≡ members_of s n
  members_on n k e = ap (λ o. option_map_or (λ (r : Row). r.members) o []) (c.rows n k e)

  -- a type that is not void is what it is here
  pub shape_on : (n : ℕ) (x : Shape) → void ≢ x → shape_of s n ≡ x → IsShape w.last n x
  shape_on n x other e = c.shapes n x (is_shape s n x other e)

  pub known_shape_on : (n : ℕ) (x : Shape) → IsKnown s n → shape_of s n ≡ x → IsShape w.last n x
  known_shape_on n x k e = c.shapes n x (known_shape s n x k e)

-- what a name finds among members
pub member_found : (x : List ℕ) (ms : List Member) (m : Member) → member_named x ms ≡ Some m → (i : ℕ) × (slice_get ms i ≡ Some m)
member_found x [] m e = absurd (cc)
member_found x (y ∷ ms) m e = by x y ms m (member_found x ms m) (bytes_eq x y.name) refl e
  where
    by : (x : List ℕ) (y : Member) (ms : List Member) (m : Member) → (member_named x ms ≡ Some m → (i : ℕ) × (slice_get ms i ≡ Some m))
        → (b : Bool) → bytes_eq x y.name ≡ b → member_named x (y ∷ ms) ≡ Some m → (i : ℕ) × (slice_get (y ∷ ms) i ≡ Some m)
    by x y ms m further true same e = (0, rw same at e)
    by x y ms m further false same e = (let rest = further (rw same at e) in (suc rest.0, rest.1))
