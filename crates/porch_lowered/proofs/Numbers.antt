-- Integers that are converted before an operator: where they are in the range of their kind already, nothing is done, and which
-- conversions meet no act.
use Rattle.std.proofs.Common.{◌≡◌, ℤ, pos, negsuc, ◌≤ℤ◌, refl, arith, Bool, true, false}
use Rattle.std.proofs.lemmas.Bool.{and_parts}
use Rattle.std.proofs.lemmas.Int.{ints}
use Rattle.std.specs.Prelude.{IsTrue, int_le, ◌&&◌, ◌||◌, not, Ok}
use Rattle.porch_types.specs.declared.shapes.Kind.{Kind}
use Rattle.porch_types.specs.declared.shapes.Kind.TheVariants.{Char, UChar, Short, UShort, Int, UInt, Long, ULong}
use Rattle.porch_types.specs.Kinds.{kind_number}
use Rattle.porch_values.specs.declared.widths.Widths.{Widths}
use Rattle.porch_values.specs.Integers.{in_range, is_value_of, converted}
use Rattle.porch_lowering.specs.Operators.{is_small, may_fail}

bounded : (low high z : ℤ) → (int_le low z && int_le z high) ≡ true → (low ≤ℤ z) × (z ≤ℤ high)
bounded low high z h =
    let both = and_parts (int_le low z) (int_le z high) h in
    let a = both.0 in
    let b = both.1 in
    (grind (arith, ints), grind (arith, ints))

within : (low high z : ℤ) → low ≤ℤ z → z ≤ℤ high → (int_le low z && int_le z high) ≡ true
within low high z a b =
    let p : int_le low z ≡ true = grind (arith, ints) in
    let q : int_le z high ≡ true = grind (arith, ints) in
    rw (p, q) refl

wider : (low low' high high' z : ℤ) → low' ≤ℤ low → high ≤ℤ high' → (int_le low z && int_le z high) ≡ true → (int_le low' z && int_le z high') ≡ true
wider low low' high high' z a b h =
    let x = bounded low high z h in
    let l = x.0 in
    let m = x.1 in
    within low' high' z (omega (arith, ints, a, l)) (omega (arith, ints, b, m))

each_true : (n w t u : Bool) → t ≡ true → u ≡ true → ((not n || t) && (not w || u)) ≡ true
each_true true true t u a b = rw (a, b) refl
each_true true false t u a b = rw a refl
each_true false true t u a b = rw b refl
each_true false false t u a b = refl

-- what is in the range of a kind where long has 32 bits is so in each width
pub narrow_fits : (kind : Kind) (widths : Widths) (z : ℤ) → IsTrue (in_range kind 32 z) → IsTrue (is_value_of kind widths z)
narrow_fits Char widths z h = each_true widths.narrow widths.wide _ _ h h
narrow_fits UChar widths z h = each_true widths.narrow widths.wide _ _ h h
narrow_fits Short widths z h = each_true widths.narrow widths.wide _ _ h h
narrow_fits UShort widths z h = each_true widths.narrow widths.wide _ _ h h
narrow_fits Int widths z h = each_true widths.narrow widths.wide _ _ h h
narrow_fits UInt widths z h = each_true widths.narrow widths.wide _ _ h h
narrow_fits Long widths z h =
    each_true widths.narrow widths.wide _ _ h
    (wider (negsuc 2147483647) (negsuc 9223372036854775807) (pos 2147483647) (pos 9223372036854775807) z (omega (arith, ints)) (omega (arith, ints)) h)
narrow_fits ULong widths z h =
    each_true widths.narrow widths.wide _ _ h
    (wider (pos 0) (pos 0) (pos 4294967295) (pos 18446744073709551615) z (omega (arith, ints)) (omega (arith, ints)) h)

each_maps : (n w t u t' u' : Bool) → (t ≡ true → t' ≡ true) → (u ≡ true → u' ≡ true) → ((not n || t) && (not w || u)) ≡ true
    → ((not n || t') && (not w || u')) ≡ true
each_maps true true t u t' u' f g h =
    let both = and_parts t u h in
    let a = f both.0 in
    let b = g both.1 in
    rw (a, b) refl
each_maps true false t u t' u' f g h =
    let both = and_parts t true h in
    let a = f both.0 in
    rw a refl
each_maps false true t u t' u' f g h = g h
each_maps false false t u t' u' f g h = refl

module _ (widths : Widths) where
  -- a value of a kind whose range lies in that of another is one of that
  fits_in : (from to : Kind) → ((z : ℤ) → in_range from 32 z ≡ true → in_range to 32 z ≡ true) → ((z : ℤ) → in_range from 64 z ≡ true → in_range to 64 z ≡ true)
      → (z : ℤ) → IsTrue (is_value_of from widths z) → IsTrue (is_value_of to widths z)
  fits_in from to f g z h = each_maps widths.narrow widths.wide _ _ _ _ (f z) (g z) h

  -- a small kind is one of int
  pub small_is_int : (kind : Kind) → is_small (kind_number kind) ≡ true → (z : ℤ)
      → IsTrue (is_value_of kind widths z) → IsTrue (is_value_of Int widths z)
  small_is_int Char s z h =
      fits_in Char Int (λ z e. wider (negsuc 127) (negsuc 2147483647) (pos 127) (pos 2147483647) z (omega (arith, ints)) (omega (arith, ints)) e)
      (λ z e. wider (negsuc 127) (negsuc 2147483647) (pos 127) (pos 2147483647) z (omega (arith, ints)) (omega (arith, ints)) e) z h
  small_is_int UChar s z h =
      fits_in UChar Int (λ z e. wider (pos 0) (negsuc 2147483647) (pos 255) (pos 2147483647) z (omega (arith, ints)) (omega (arith, ints)) e)
      (λ z e. wider (pos 0) (negsuc 2147483647) (pos 255) (pos 2147483647) z (omega (arith, ints)) (omega (arith, ints)) e) z h
  small_is_int Short s z h =
      fits_in Short Int (λ z e. wider (negsuc 32767) (negsuc 2147483647) (pos 32767) (pos 2147483647) z (omega (arith, ints)) (omega (arith, ints)) e)
      (λ z e. wider (negsuc 32767) (negsuc 2147483647) (pos 32767) (pos 2147483647) z (omega (arith, ints)) (omega (arith, ints)) e) z h
  small_is_int UShort s z h =
      fits_in UShort Int (λ z e. wider (pos 0) (negsuc 2147483647) (pos 65535) (pos 2147483647) z (omega (arith, ints)) (omega (arith, ints)) e)
      (λ z e. wider (pos 0) (negsuc 2147483647) (pos 65535) (pos 2147483647) z (omega (arith, ints)) (omega (arith, ints)) e) z h
  small_is_int Int s z h = h
  small_is_int UInt s z h = cc
  small_is_int Long s z h = cc
  small_is_int ULong s z h = cc

  -- in the range of long
  long_fits : (kind : Kind) → may_fail (kind_number kind) (kind_number Long) ≡ false → (z : ℤ) → IsTrue (is_value_of kind widths z) → IsTrue (is_value_of Long widths z)
  long_fits Char s z h =
      fits_in Char Long (λ z e. wider (negsuc 127) (negsuc 2147483647) (pos 127) (pos 2147483647) z (omega (arith, ints)) (omega (arith, ints)) e)
      (λ z e. wider (negsuc 127) (negsuc 9223372036854775807) (pos 127) (pos 9223372036854775807) z (omega (arith, ints)) (omega (arith, ints)) e) z h
  long_fits UChar s z h =
      fits_in UChar Long (λ z e. wider (pos 0) (negsuc 2147483647) (pos 255) (pos 2147483647) z (omega (arith, ints)) (omega (arith, ints)) e)
      (λ z e. wider (pos 0) (negsuc 9223372036854775807) (pos 255) (pos 9223372036854775807) z (omega (arith, ints)) (omega (arith, ints)) e) z h
  long_fits Short s z h =
      fits_in Short Long (λ z e. wider (negsuc 32767) (negsuc 2147483647) (pos 32767) (pos 2147483647) z (omega (arith, ints)) (omega (arith, ints)) e)
      (λ z e. wider (negsuc 32767) (negsuc 9223372036854775807) (pos 32767) (pos 9223372036854775807) z (omega (arith, ints)) (omega (arith, ints)) e) z h
  long_fits UShort s z h =
      fits_in UShort Long (λ z e. wider (pos 0) (negsuc 2147483647) (pos 65535) (pos 2147483647) z (omega (arith, ints)) (omega (arith, ints)) e)
      (λ z e. wider (pos 0) (negsuc 9223372036854775807) (pos 65535) (pos 9223372036854775807) z (omega (arith, ints)) (omega (arith, ints)) e) z h
  long_fits Int s z h =
      fits_in Int Long (λ z e. e)
      (λ z e. wider (negsuc 2147483647) (negsuc 9223372036854775807) (pos 2147483647) (pos 9223372036854775807) z (omega (arith, ints)) (omega (arith, ints)) e) z h
  long_fits UInt s z h = cc
  long_fits Long s z h = h
  long_fits ULong s z h = cc

  -- in the range of unsigned long
  ulong_fits : (kind : Kind) → may_fail (kind_number kind) (kind_number ULong) ≡ false → (z : ℤ) → IsTrue (is_value_of kind widths z) → IsTrue (is_value_of ULong widths z)
  ulong_fits Char s z h = cc
  ulong_fits UChar s z h =
      fits_in UChar ULong (λ z e. wider (pos 0) (pos 0) (pos 255) (pos 4294967295) z (omega (arith, ints)) (omega (arith, ints)) e)
      (λ z e. wider (pos 0) (pos 0) (pos 255) (pos 18446744073709551615) z (omega (arith, ints)) (omega (arith, ints)) e) z h
  ulong_fits Short s z h = cc
  ulong_fits UShort s z h =
      fits_in UShort ULong (λ z e. wider (pos 0) (pos 0) (pos 65535) (pos 4294967295) z (omega (arith, ints)) (omega (arith, ints)) e)
      (λ z e. wider (pos 0) (pos 0) (pos 65535) (pos 18446744073709551615) z (omega (arith, ints)) (omega (arith, ints)) e) z h
  ulong_fits Int s z h = cc
  ulong_fits UInt s z h =
      fits_in UInt ULong (λ z e. e)
      (λ z e. wider (pos 0) (pos 0) (pos 4294967295) (pos 18446744073709551615) z (omega (arith, ints)) (omega (arith, ints)) e) z h
  ulong_fits Long s z h = cc
  ulong_fits ULong s z h = h

  -- A conversion that can't fail gives a number.
  pub converts_safely : ((kind : Kind) (z : ℤ) → IsTrue (is_value_of kind widths z) → converted kind widths z ≡ Ok z) → (from to : Kind)
      → may_fail (kind_number from) (kind_number to) ≡ false → (z : ℤ) → IsTrue (is_value_of from widths z) → (w : ℤ) × (converted to widths z ≡ Ok w)
  converts_safely same from Char s z h = (_, refl)
  converts_safely same from UChar s z h = (_, refl)
  converts_safely same from Short s z h = (_, refl)
  converts_safely same from UShort s z h = (_, refl)
  converts_safely same from Int s z h = (_, refl)
  converts_safely same from UInt s z h = (_, refl)
  converts_safely same from Long s z h = (z, same Long z (long_fits from s z h))
  converts_safely same from ULong s z h = (z, same ULong z (ulong_fits from s z h))
