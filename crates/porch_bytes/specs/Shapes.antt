-- The size of a leaf's number, and whether it may be negative: all that its bytes depend on.
use Rattle.std.specs.Prelude.{◌≡◌, ◌≤◌, ◌+◌, length, IsTrue, ◌-◌, ◌^◌, ◌&&◌, pos, neg_ℤ, int_le, ℕ, ◌==◌, Bool, true, false, List, ℤ, if◌then◌else◌, Option, Some}
use Rattle.porch_types.specs.declared.shapes.Kind.{Kind}
use Rattle.porch_types.specs.declared.shapes.Kind.TheVariants as kind
use Rattle.porch_types.specs.declared.shapes.Ty.{Ty}
use Rattle.porch_types.specs.declared.shapes.Ty.TheVariants.{Whole}
use Rattle.porch_layout.specs.declared.layout.Layout.{Layout}
use Rattle.porch_bytes.specs.Leaf.{number_at, with_number}
use Rattle.porch_bytes.specs.declared.shape.Shape.{Shape}
use Rattle.porch_bytes.specs.declared.shape.Shape.TheVariants.{I8, U8, I16, U16, I32, U32, I64, U64}

abbrev pub size_in : Shape → ℕ
size_in I8 = 1
size_in U8 = 1
size_in I16 = 2
size_in U16 = 2
size_in I32 = 4
size_in U32 = 4
size_in I64 = 8
size_in U64 = 8

abbrev pub has_sign_in : Shape → Bool
has_sign_in I8 = true
has_sign_in U8 = false
has_sign_in I16 = true
has_sign_in U16 = false
has_sign_in I32 = true
has_sign_in U32 = false
has_sign_in I64 = true
has_sign_in U64 = false

-- the number at an address, and memory with a number there
abbrev pub number_in : (big : Bool) → Shape → List ℕ → (at : ℕ) → ℤ
number_in big shape memory at = number_at big (has_sign_in shape) (size_in shape) memory at

abbrev pub with_number_in : (big : Bool) → Shape → List ℕ → (at : ℕ) → ℤ → List ℕ
with_number_in big shape memory at z = with_number big (size_in shape) memory at z

-- a shape of 4 or 8 bytes
abbrev pub signed_of : ℕ → Shape
signed_of size = if size == 4 then I32 else I64

abbrev pub unsigned_of : ℕ → Shape
unsigned_of size = if size == 4 then U32 else U64

abbrev pub kind_shape : Layout → Kind → Shape
kind_shape under kind.Char = I8
kind_shape under kind.UChar = U8
kind_shape under kind.Short = I16
kind_shape under kind.UShort = U16
kind_shape under kind.Int = I32
kind_shape under kind.UInt = U32
kind_shape under kind.Long = signed_of under.long
kind_shape under kind.ULong = unsigned_of under.long

-- the shape of an integer or a pointer
abbrev pub shape_of : Layout → Option Ty → Shape
shape_of under (Some (Whole kind)) = kind_shape under kind
shape_of under ty = unsigned_of under.pointer

-- the numbers of a shape
abbrev pub least_in : Shape → ℤ
least_in I8 = neg_ℤ (pos (2 ^ 7))
least_in I16 = neg_ℤ (pos (2 ^ 15))
least_in I32 = neg_ℤ (pos (2 ^ 31))
least_in I64 = neg_ℤ (pos (2 ^ 63))
least_in shape = pos 0

abbrev pub greatest_in : Shape → ℤ
greatest_in I8 = pos (2 ^ 7 - 1)
greatest_in U8 = pos (2 ^ 8 - 1)
greatest_in I16 = pos (2 ^ 15 - 1)
greatest_in U16 = pos (2 ^ 16 - 1)
greatest_in I32 = pos (2 ^ 31 - 1)
greatest_in U32 = pos (2 ^ 32 - 1)
greatest_in I64 = pos (2 ^ 63 - 1)
greatest_in U64 = pos (2 ^ 64 - 1)

abbrev pub is_in_shape : Shape → ℤ → Bool
is_in_shape shape z = int_le (least_in shape) z && int_le z (greatest_in shape)

-- a number of a shape that is written is read back
abbrev pub NumbersAreReadBack : Type 0
NumbersAreReadBack =
    (big : Bool) (shape : Shape) (memory : List ℕ) (at : ℕ) (z : ℤ) → at + size_in shape ≤ length memory
    → IsTrue (is_in_shape shape z)
    → number_in big shape (with_number_in big shape memory at z) at ≡ z
