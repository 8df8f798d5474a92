-- The types of a text while it is read. They have numbers, and equal ones have one number: here such a type is called a
-- shape, since a struct's may still be incomplete. The numbers of a typed program are given last.
use Rattle.std.specs.Prelude.{ℕ, suc, ◌*◌, nat_eq, Bool, true, false, ◌&&◌, if◌then◌else◌, List, [], ◌∷◌, ◌++◌, length, map, slice_get, slice_set, Option, Some, None, is_some}
use Rattle.std.specs.Option.{option_map, option_map_or}
use Rattle.std.specs.Str.{bytes_eq}
use Rattle.porch_types.specs.declared.shapes.Kind.{Kind}
use Rattle.porch_types.specs.declared.shapes.Kind.TheVariants.{Char, UChar, Short, UShort, Int, UInt, Long, ULong}
use Rattle.porch_types.specs.Kinds.{kind_number}

pub data Shape : Type 0 where
  void : Shape
  whole : Kind → Shape
  pointer : (to : ℕ) → Shape
  -- an array; without a count it is incomplete
  array : (of : ℕ) → (count : Option ℕ) → Shape
  -- a struct, which is its own number: each declaration of a tag makes another one
  structure : (number : ℕ) → Shape
  function : (result : ℕ) → (params : List ℕ) → Shape

pub record Member : Type 0 where
  pub name : List ℕ
  pub shape : ℕ
  -- its first leaf in the struct
  pub leaf : ℕ

pub record Row : Type 0 where
  pub shape : Shape
  -- the leaves of a complete type; none where it is incomplete, void or a function
  pub leaves : Option ℕ
  -- of a complete struct
  pub members : List Member
  -- whether a brace later in the text completes it
  pub awaited : Bool

-- The types so far, by their numbers, and the numbers of those that are complete, in the order in which they became so.
pub record Shapes : Type 0 where
  pub rows : List Row
  pub complete : List ℕ

-- whether two types are one

abbrev pub kind_eq : Kind → Kind → Bool
kind_eq a b = nat_eq (kind_number a) (kind_number b)

abbrev pub count_eq : Option ℕ → Option ℕ → Bool
count_eq None None = true
count_eq (Some a) (Some b) = nat_eq a b
count_eq a b = false

abbrev pub shape_eq : Shape → Shape → Bool
shape_eq void void = true
shape_eq (whole a) (whole b) = kind_eq a b
shape_eq (pointer a) (pointer b) = nat_eq a b
shape_eq (array a m) (array b n) = nat_eq a b && count_eq m n
shape_eq (structure a) (structure b) = nat_eq a b
shape_eq (function a ps) (function b qs) = nat_eq a b && bytes_eq ps qs
shape_eq a b = false

-- What a type of a number is.

abbrev pub row_of : Shapes → ℕ → Option Row
row_of s n = slice_get s.rows n

abbrev pub shape_of : Shapes → ℕ → Shape
shape_of s n = option_map_or (λ (r : Row). r.shape) (row_of s n) void

abbrev pub leaves_of : Shapes → ℕ → Option ℕ
leaves_of s n = option_map_or (λ (r : Row). r.leaves) (row_of s n) None

abbrev pub is_complete : Shapes → ℕ → Bool
is_complete s n = is_some (leaves_of s n)

-- The leaves of a complete type.
abbrev pub size_of : Shapes → ℕ → ℕ
size_of s n = option_map_or (λ k. k) (leaves_of s n) 0

abbrev pub members_of : Shapes → ℕ → List Member
members_of s n = option_map_or (λ (r : Row). r.members) (row_of s n) []

-- it is complete, or will be
abbrev pub is_ever_complete : Shapes → ℕ → Bool
is_ever_complete s n = option_map_or (λ (r : Row). if is_some r.leaves then true else r.awaited) (row_of s n) false

-- New types.

-- the leaves of a type that is no struct, which it has from the beginning
abbrev pub leaves_in : Shapes → Shape → Option ℕ
leaves_in s (whole kind) = Some 1
leaves_in s (pointer to) = Some 1
leaves_in s (array of (Some n)) = option_map (λ k. n * k) (leaves_of s of)
leaves_in s x = None

abbrev pub with_complete : ℕ → Option ℕ → List ℕ → List ℕ
with_complete n None ns = ns
with_complete n (Some k) ns = ns ++ n ∷ []

abbrev pub with_row : Row → Shapes → Shapes
with_row r s = record { rows = s.rows ++ r ∷ []; complete = with_complete (length s.rows) r.leaves s.complete }

abbrev pub place_in : Shape → List Row → (n : ℕ) → Option ℕ
place_in x [] n = None
place_in x (r ∷ rs) n = if shape_eq x r.shape then Some n else place_in x rs (suc n)

abbrev pub numbered_at : Option ℕ → Shape → Shapes → ℕ × Shapes
numbered_at (Some n) x s = (n, s)
numbered_at None x s =
    (length s.rows, with_row (record { shape = x; leaves = leaves_in s x; members = []; awaited = false }) s)

-- the number of a type, which is a new one where no equal type has one
abbrev pub numbered : Shape → Shapes → ℕ × Shapes
numbered x s = numbered_at (place_in x s.rows 0) x s

-- a new struct, still incomplete
abbrev pub with_struct : (awaited : Bool) → Shapes → ℕ × Shapes
with_struct awaited s =
    (length s.rows, with_row (record { shape = structure (length s.rows); leaves = None; members = []; awaited = awaited }) s)

-- a struct completed by its members, which have so many leaves
abbrev pub completed : ℕ → List Member → (leaves : ℕ) → Shapes → Shapes
completed n ms leaves s =
    record {
      rows = slice_set s.rows n (record { shape = structure n; leaves = Some leaves; members = ms; awaited = false });
      complete = s.complete ++ n ∷ [];
    }

-- The kinds come first, with the numbers that they keep, and void behind them.

abbrev pub first_row : Shape → Option ℕ → Row
first_row x leaves = record { shape = x; leaves = leaves; members = []; awaited = false }

abbrev pub VOID : ℕ
VOID = 8

abbrev pub first_shapes : Shapes
first_shapes =
    record {
      rows =
          map (λ k. first_row (whole k) (Some 1)) (Char ∷ UChar ∷ Short ∷ UShort ∷ Int ∷ UInt ∷ Long ∷ ULong ∷ [])
          ++ first_row void None ∷ [];
      complete = 0 ∷ 1 ∷ 2 ∷ 3 ∷ 4 ∷ 5 ∷ 6 ∷ 7 ∷ [];
    }
