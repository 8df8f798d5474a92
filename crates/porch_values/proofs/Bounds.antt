-- Values of a kind lie within 64 bits.
use Rattle.std.proofs.Common.{◌≡◌, ℕ, ◌^◌, ◌<◌, ◌≤◌, ℤ, pos, negsuc, ◌≤ℤ◌, Bool, true, false, not, cond, ◌&&◌, ◌||◌, ◌⊎◌, inl, inr, int_lt, int_le, refl, arith}
use Rattle.std.proofs.lemmas.Bool.{and_parts}
use Rattle.std.proofs.lemmas.Int.{ints}
use Rattle.std.proofs.Math.Pow.{pow_mono}
use Rattle.porch_types.specs.declared.shapes.Kind.{Kind}
use Rattle.porch_types.specs.declared.shapes.Kind.TheVariants.{Char, UChar, Short, UShort, Int, UInt, Long, ULong}
use Rattle.porch_values.specs.declared.acts.Op.{Op}
use Rattle.porch_values.specs.declared.widths.Widths.{Widths}
use Rattle.porch_values.specs.Integers.{in_range, is_value_of, is_right_of, is_shift}
use Rattle.porch_values.specs.inside.Words.{InWord, InSigned, InUnsigned}

-- a test of a range
pub bounded : (low high z : ℤ) → (int_le low z && int_le z high) ≡ true → (low ≤ℤ z) × (z ≤ℤ high)
bounded low high z h =
    let (a, b) = and_parts (int_le low z) (int_le z high) h in
    (grind (arith, ints), grind (arith, ints))

-- one of the widths is there
pub each_cases : (n w t u : Bool) → (n || w) ≡ true → ((not n || t) && (not w || u)) ≡ true → (t ≡ true) ⊎ (u ≡ true)
each_cases true w true u some h = inl refl
each_cases true w false u some h = absurd (cc)
each_cases false true t true some h = inr refl
each_cases false true t false some h = absurd (cc)
each_cases false false t u some h = absurd (cc)

word_32 : (kind : Kind) (z : ℤ) → in_range kind 32 z ≡ true → InWord z
word_32 Char z h = let (a, b) = bounded (negsuc 127) (pos 127) z h in record { low = omega (arith, ints); high = omega (arith, ints) }
word_32 UChar z h = let (a, b) = bounded (pos 0) (pos 255) z h in record { low = omega (arith, ints); high = omega (arith, ints) }
word_32 Short z h = let (a, b) = bounded (negsuc 32767) (pos 32767) z h in record { low = omega (arith, ints); high = omega (arith, ints) }
word_32 UShort z h = let (a, b) = bounded (pos 0) (pos 65535) z h in record { low = omega (arith, ints); high = omega (arith, ints) }
word_32 Int z h = let (a, b) = bounded (negsuc 2147483647) (pos 2147483647) z h in record { low = omega (arith, ints); high = omega (arith, ints) }
word_32 UInt z h = let (a, b) = bounded (pos 0) (pos 4294967295) z h in record { low = omega (arith, ints); high = omega (arith, ints) }
word_32 Long z h = let (a, b) = bounded (negsuc 2147483647) (pos 2147483647) z h in record { low = omega (arith, ints); high = omega (arith, ints) }
word_32 ULong z h = let (a, b) = bounded (pos 0) (pos 4294967295) z h in record { low = omega (arith, ints); high = omega (arith, ints) }

word_64 : (kind : Kind) (z : ℤ) → in_range kind 64 z ≡ true → InWord z
word_64 Char z h = word_32 Char z h
word_64 UChar z h = word_32 UChar z h
word_64 Short z h = word_32 Short z h
word_64 UShort z h = word_32 UShort z h
word_64 Int z h = word_32 Int z h
word_64 UInt z h = word_32 UInt z h
word_64 Long z h = let (a, b) = bounded (negsuc 9223372036854775807) (pos 9223372036854775807) z h in record { low = omega (arith, ints); high = omega (arith, ints) }
word_64 ULong z h = let (a, b) = bounded (pos 0) (pos 18446744073709551615) z h in record { low = omega (arith, ints); high = omega (arith, ints) }

-- a value of a kind in each width is one of 64 bits
pub value_word : (kind : Kind) (widths : Widths) (z : ℤ) → (widths.narrow || widths.wide) ≡ true → is_value_of kind widths z ≡ true → InWord z
value_word kind widths z some h =
    elim (each_cases widths.narrow widths.wide (in_range kind 32 z) (in_range kind 64 z) some h) [ inl a ↦ word_32 kind z a | inr a ↦ word_64 kind z a ]

-- so is what stands right of an operator
pub right_word : (op : Op) (kind : Kind) (widths : Widths) (z : ℤ) → (widths.narrow || widths.wide) ≡ true → is_right_of op kind widths z ≡ true → InWord z
right_word op kind widths z some h = by_shift (is_shift op) h
  where
    count_word : (int_le (negsuc 9223372036854775807) z && int_lt z (pos (2 ^ 64))) ≡ true → InWord z
    count_word h =
        let (a, b) = and_parts (int_le (negsuc 9223372036854775807) z) (int_lt z (pos (2 ^ 64))) h in
        record { low = grind (arith, ints); high = grind (arith, ints) }

    by_shift : (s : Bool) → cond s (int_le (negsuc 9223372036854775807) z && int_lt z (pos (2 ^ 64))) (is_value_of kind widths z) ≡ true → InWord z
    by_shift true h = count_word h
    by_shift false h = value_word kind widths z some h

signed_32 : (kind : Kind) (z : ℤ) → in_range kind 32 z ≡ true → InSigned z
signed_32 Char z h = let (a, b) = bounded (negsuc 127) (pos 127) z h in record { low = omega (arith, ints); high = omega (arith, ints) }
signed_32 UChar z h = let (a, b) = bounded (pos 0) (pos 255) z h in record { low = omega (arith, ints); high = omega (arith, ints) }
signed_32 Short z h = let (a, b) = bounded (negsuc 32767) (pos 32767) z h in record { low = omega (arith, ints); high = omega (arith, ints) }
signed_32 UShort z h = let (a, b) = bounded (pos 0) (pos 65535) z h in record { low = omega (arith, ints); high = omega (arith, ints) }
signed_32 Int z h = let (a, b) = bounded (negsuc 2147483647) (pos 2147483647) z h in record { low = omega (arith, ints); high = omega (arith, ints) }
signed_32 UInt z h = let (a, b) = bounded (pos 0) (pos 4294967295) z h in record { low = omega (arith, ints); high = omega (arith, ints) }
signed_32 Long z h = let (a, b) = bounded (negsuc 2147483647) (pos 2147483647) z h in record { low = omega (arith, ints); high = omega (arith, ints) }
signed_32 ULong z h = let (a, b) = bounded (pos 0) (pos 4294967295) z h in record { low = omega (arith, ints); high = omega (arith, ints) }

signed_64 : (kind : Kind) (z : ℤ) → (kind ≡ ULong → ⊥) → in_range kind 64 z ≡ true → InSigned z
signed_64 Char z other h = signed_32 Char z h
signed_64 UChar z other h = signed_32 UChar z h
signed_64 Short z other h = signed_32 Short z h
signed_64 UShort z other h = signed_32 UShort z h
signed_64 Int z other h = signed_32 Int z h
signed_64 UInt z other h = signed_32 UInt z h
signed_64 Long z other h = let (a, b) = bounded (negsuc 9223372036854775807) (pos 9223372036854775807) z h in record { low = omega (arith, ints); high = omega (arith, ints) }
signed_64 ULong z other h = absurd (other refl)

-- a value of any kind but `unsigned long` is a signed one of 64 bits
pub value_signed : (kind : Kind) (widths : Widths) (z : ℤ) → (widths.narrow || widths.wide) ≡ true → (kind ≡ ULong → ⊥) → is_value_of kind widths z ≡ true → InSigned z
value_signed kind widths z some other h =
    elim (each_cases widths.narrow widths.wide (in_range kind 32 z) (in_range kind 64 z) some h) [ inl a ↦ signed_32 kind z a | inr a ↦ signed_64 kind z other a ]

-- a value of `unsigned long`
pub value_unsigned : (widths : Widths) (z : ℤ) → (widths.narrow || widths.wide) ≡ true → is_value_of ULong widths z ≡ true → InUnsigned z
value_unsigned widths z some h =
    elim (each_cases widths.narrow widths.wide (in_range ULong 32 z) (in_range ULong 64 z) some h) [
      | inl t ↦ (let (a, b) = bounded (pos 0) (pos 4294967295) z t in record { low = omega (arith, ints); high = omega (arith, ints) })
      | inr t ↦ (let (a, b) = bounded (pos 0) (pos 18446744073709551615) z t in record { low = omega (arith, ints); high = omega (arith, ints) })
    ]

-- a power of two by a count below 64
pub power_small : (count : ℕ) → count < 64 → 2 ^ count ≤ 2 ^ 63
power_small count h = let less : count ≤ 63 = omega arith in pow_mono less
