-- Leaves as bytes: integers in two's complement and addresses, in a layout's byte order and sizes.
use Rattle.std.specs.Prelude.{◌≡◌, ◌≤◌, ℕ, zero, suc, ◌+◌, ◌*◌, ◌/◌, ◌%◌, ℤ, pos, unsigned_abs, Bool, false, List, [], ◌∷◌, ◌++◌, length, take, drop, reverse, slice_get, if◌then◌else◌, Option, Some}
use Rattle.porch_types.specs.declared.shapes.Ty.{Ty}
use Rattle.porch_types.specs.declared.shapes.Ty.TheVariants.{Whole}
use Rattle.porch_values.specs.Integers.{is_signed, low_bits, signed_bits}
use Rattle.porch_layout.specs.declared.layout.Layout.{Layout}
use Rattle.porch_metrics.specs.Extents.{extent_of}

-- the number that digits of 256 stand for, the least first
abbrev pub number_of : List ℕ → ℕ
number_of [] = 0
number_of (b ∷ bs) = b + 256 * number_of bs

-- so many digits of a number, the least first
abbrev pub digits : ℕ → ℕ → List ℕ
digits zero n = []
digits (suc k) n = (n % 256) ∷ digits k (n / 256)

-- bytes in the order in which they stand, the least first or last
abbrev pub in_order : Bool → List ℕ → List ℕ
in_order big bytes = if big then reverse bytes else bytes

-- the number that a leaf's bytes stand for
abbrev pub decoded : (big signed : Bool) → List ℕ → ℤ
decoded big signed bytes =
    if signed then signed_bits (8 * length bytes) (pos (number_of (in_order big bytes)))
    else pos (number_of (in_order big bytes))

-- the bytes of a number's low bits
abbrev pub encoded : (big : Bool) → (size : ℕ) → ℤ → List ℕ
encoded big size z = in_order big (digits size (unsigned_abs (low_bits (8 * size) z)))

-- a part of memory, and memory with bytes put in a place
abbrev pub part : List ℕ → (at size : ℕ) → List ℕ
part memory at size = take size (drop at memory)

abbrev pub spliced : List ℕ → (at : ℕ) → List ℕ → List ℕ
spliced memory at bytes = take at memory ++ (bytes ++ drop (at + length bytes) memory)

-- the number in so many bytes at an address
abbrev pub number_at : (big signed : Bool) → (size : ℕ) → List ℕ → (at : ℕ) → ℤ
number_at big signed size memory at = decoded big signed (part memory at size)

-- memory with a number put into so many bytes
abbrev pub with_number : (big : Bool) → (size : ℕ) → List ℕ → (at : ℕ) → ℤ → List ℕ
with_number big size memory at z = spliced memory at (encoded big size z)

-- whether numbers of a type may be negative; an address is never
abbrev pub has_sign : Option Ty → Bool
has_sign (Some (Whole kind)) = is_signed kind
has_sign _ = false

module _ (under : Layout) (types : List Ty) where
  -- the number in a leaf of a type that stands at an address
  abbrev pub leaf_value : List ℕ → (at ty : ℕ) → ℤ
  leaf_value memory at ty =
      number_at under.big (has_sign (slice_get types ty)) (extent_of under types ty).size memory at

  -- memory with a number put into that leaf
  abbrev pub with_leaf_value : List ℕ → (at ty : ℕ) → ℤ → List ℕ
  with_leaf_value memory at ty z = with_number under.big (extent_of under types ty).size memory at z

-- Bytes put in a place are there, and all others stay.
pub record PartsStay (memory : List ℕ) (at : ℕ) (bytes : List ℕ) : Type 0 where
  pub same : part (spliced memory at bytes) at (length bytes) ≡ bytes
  pub before : (other size : ℕ) → other + size ≤ at
      → part (spliced memory at bytes) other size ≡ part memory other size
  pub after : (other size : ℕ) → at + length bytes ≤ other
      → part (spliced memory at bytes) other size ≡ part memory other size
  pub length_is : length (spliced memory at bytes) ≡ length memory

abbrev pub OthersStay : Type 0
OthersStay =
    (memory : List ℕ) (at : ℕ) (bytes : List ℕ) → at + length bytes ≤ length memory
    → PartsStay memory at bytes

-- so many bytes encode a number
abbrev pub NumbersHaveSizes : Type 0
NumbersHaveSizes = (big : Bool) (size : ℕ) (z : ℤ) → length (encoded big size z) ≡ size
