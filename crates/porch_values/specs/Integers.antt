-- C's integers as whole numbers: the range of each kind, and the result of each operator and conversion.
use Rattle.std.specs.Prelude.{ℕ, ◌-◌, ◌^◌, ℤ, pos, negsuc, neg_ℤ, ◌+ℤ◌, ◌-ℤ◌, ◌*ℤ◌, int_div, int_rem, int_lt, int_le, unsigned_abs, Bool, true, false, not, ◌&&◌, ◌||◌, if◌then◌else◌, Result, Ok, Err}
use Rattle.std.specs.Ordering.{int_eq}
use Rattle.std.specs.Int.{int_rem_euclid, int_div_euclid, int_bit_and, int_bit_or, int_bit_xor, w128}
use Rattle.porch_types.specs.declared.shapes.Kind.{Kind}
use Rattle.porch_types.specs.declared.shapes.Kind.TheVariants.{Char, UChar, Short, UShort, Int, UInt, Long, ULong}
use Rattle.porch_values.specs.declared.acts.Act.{Act}
use Rattle.porch_values.specs.declared.acts.Act.TheVariants.{Overflow, Narrow, Divide, Shift}
use Rattle.porch_values.specs.declared.acts.Op.{Op}
use Rattle.porch_values.specs.declared.acts.Op.TheVariants.{Add, Sub, Mul, Div, Rem, And, Or, Xor, Shl, Shr}
use Rattle.porch_values.specs.declared.widths.Widths.{Widths}

-- the bits of a kind where long has so many
abbrev pub bits : Kind → ℕ → ℕ
bits Char width = 8
bits UChar width = 8
bits Short width = 16
bits UShort width = 16
bits Int width = 32
bits UInt width = 32
bits Long width = width
bits ULong width = width

abbrev pub is_signed : Kind → Bool
is_signed Char = true
is_signed UChar = false
is_signed Short = true
is_signed UShort = false
is_signed Int = true
is_signed UInt = false
is_signed Long = true
is_signed ULong = false

-- the least and the greatest value of a kind
abbrev pub least_of : Kind → ℕ → ℤ
least_of kind width = if is_signed kind then neg_ℤ (pos (2 ^ (bits kind width - 1))) else pos 0

abbrev pub greatest_of : Kind → ℕ → ℤ
greatest_of kind width = if is_signed kind then pos (2 ^ (bits kind width - 1) - 1) else pos (2 ^ bits kind width - 1)

abbrev pub in_range : Kind → ℕ → ℤ → Bool
in_range kind width z = int_le (least_of kind width) z && int_le z (greatest_of kind width)

-- in each width of long, and in some
abbrev pub in_each : Widths → (ℕ → Bool) → Bool
in_each widths test = (not widths.narrow || test 32) && (not widths.wide || test 64)

abbrev pub in_some : Widths → (ℕ → Bool) → Bool
in_some widths test = (widths.narrow && test 32) || (widths.wide && test 64)

-- the least width
abbrev pub least_width : Widths → ℕ
least_width widths = if widths.narrow then 32 else 64

-- a value of the kind in each width
abbrev pub is_value_of : Kind → Widths → ℤ → Bool
is_value_of kind widths z = in_each widths (λ width. in_range kind width z)

-- the number modulo 2 ^ count
abbrev pub low_bits : ℕ → ℤ → ℤ
low_bits count z = int_rem_euclid z (pos (2 ^ count))

-- the number from -2 ^ (count - 1) on that has the same low bits
abbrev pub signed_bits : ℕ → ℤ → ℤ
signed_bits count z = if int_lt (low_bits count z) (pos (2 ^ (count - 1))) then low_bits count z else low_bits count z -ℤ pos (2 ^ count)

-- the number as an int
abbrev pub as_int_of : ℤ → Result ℤ Act
as_int_of z = if in_range Int 32 z then Ok z else Err Overflow

-- the number as a long: it has to be one in each width
abbrev pub as_long_of : Widths → ℤ → Result ℤ Act
as_long_of widths z = if is_value_of Long widths z then Ok z else Err Overflow

-- the number as an unsigned long: it has to be the same in each width
abbrev pub as_ulong_of : Widths → ℤ → Result ℤ Act
as_ulong_of widths z =
    if widths.narrow && widths.wide && not (int_eq (low_bits 32 z) (low_bits 64 z)) then Err Narrow else Ok (low_bits (least_width widths) z)

-- the number converted to a kind
abbrev pub converted : Kind → Widths → ℤ → Result ℤ Act
converted Char widths z = Ok (signed_bits 8 z)
converted UChar widths z = Ok (low_bits 8 z)
converted Short widths z = Ok (signed_bits 16 z)
converted UShort widths z = Ok (low_bits 16 z)
converted Int widths z = Ok (signed_bits 32 z)
converted UInt widths z = Ok (low_bits 32 z)
converted Long widths z = as_long_of widths z
converted ULong widths z = as_ulong_of widths z

-- the number as the result of an operator of the kind: an int keeps its range, the others are converted
abbrev pub reduced : Kind → Widths → ℤ → Result ℤ Act
reduced Int widths z = as_int_of z
reduced kind widths z = converted kind widths z

-- the exact result: `/` rounds towards zero, `>>` down, and the bits are those of two's complement
-- (each value of a kind has at most 65)
abbrev pub exact : Op → ℤ → ℤ → ℤ
exact Add a b = a +ℤ b
exact Sub a b = a -ℤ b
exact Mul a b = a *ℤ b
exact Div a b = int_div a b
exact Rem a b = int_rem a b
exact And a b = int_bit_and w128 a b
exact Or a b = int_bit_or w128 a b
exact Xor a b = int_bit_xor w128 a b
exact Shl a b = a *ℤ pos (2 ^ unsigned_abs b)
exact Shr a b = int_div_euclid a (pos (2 ^ unsigned_abs b))

abbrev pub is_division : Op → Bool
is_division Div = true
is_division Rem = true
is_division _ = false

abbrev pub is_shift : Op → Bool
is_shift Shl = true
is_shift Shr = true
is_shift _ = false

abbrev pub is_remainder : Op → Bool
is_remainder Rem = true
is_remainder _ = false

-- the kinds whose values operators take
abbrev pub is_operand_kind : Kind → Bool
is_operand_kind Int = true
is_operand_kind UInt = true
is_operand_kind Long = true
is_operand_kind ULong = true
is_operand_kind _ = false

-- a shift by this count is none: it is negative, or not below the bits of what is shifted
abbrev pub is_bad_count : Kind → Widths → ℤ → Bool
is_bad_count kind widths count = int_lt count (pos 0) || int_le (pos (bits kind (least_width widths))) count

-- what may stand right of an operator: a shift's count is any value of 64 bits, signed or not
abbrev pub is_right_of : Op → Kind → Widths → ℤ → Bool
is_right_of op kind widths b =
    if is_shift op then int_le (neg_ℤ (pos (2 ^ 63))) b && int_lt b (pos (2 ^ 64)) else is_value_of kind widths b

-- the result of an operator, or why it has none; the least value by -1 has no remainder, since C's
-- quotient is out of range
abbrev pub applied : Op → Kind → Widths → ℤ → ℤ → Result ℤ Act
applied op kind widths a b =
    if is_division op && int_eq b (pos 0) then
    Err Divide
    else (if is_shift op && is_bad_count kind widths b then
    Err Shift
    else (if is_remainder op && int_eq b (negsuc 0) && in_some widths (λ width. int_eq a (least_of kind width)) then
    Err Overflow
    else
    reduced kind widths (exact op a b)))

-- the result of `~`
abbrev pub complemented : Kind → Widths → ℤ → Result ℤ Act
complemented kind widths a = reduced kind widths (negsuc 0 -ℤ a)
