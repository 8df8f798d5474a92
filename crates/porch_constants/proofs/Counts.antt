-- A number that is no value of 64 bits is no count of a shift.
use Rattle.std.proofs.Common.{◌≡◌, ℕ, ◌^◌, ◌≤◌, ℤ, pos, negsuc, ◌≤ℤ◌, Bool, true, false, ◌&&◌, ◌||◌, int_lt, int_le, Err, lit≤, refl, arith}
use Rattle.std.proofs.lemmas.Int.{ints}
use Rattle.porch_types.specs.declared.shapes.Kind.{Kind}
use Rattle.porch_types.specs.declared.shapes.Kind.TheVariants.{Char, UChar, Short, UShort, Int, UInt, Long, ULong}
use Rattle.porch_values.specs.declared.acts.Act.TheVariants.{Shift}
use Rattle.porch_values.specs.declared.acts.Op.{Op}
use Rattle.porch_values.specs.declared.acts.Op.TheVariants as op
use Rattle.porch_values.specs.Integers.{applied, bits, is_right_of, is_shift}
use Rattle.porch_check.specs.Constants.{both_widths}

at_least : (n : ℕ) (y : ℤ) → n ≤ 64 → int_lt y (pos 0) ≡ false → (int_le (negsuc 9223372036854775807) y && int_lt y (pos 18446744073709551616)) ≡ false → int_le (pos n) y ≡ true
at_least n y small some far =
    let low : pos 0 ≤ℤ y = grind (arith, ints) in
    let p : int_le (negsuc 9223372036854775807) y ≡ true = grind (arith, ints) in
    let q = rw p at far in
    let high : pos 18446744073709551616 ≤ℤ y = grind (arith, ints) in
    grind (arith, ints)

bad : (n : ℕ) (y : ℤ) → n ≤ 64 → (int_le (negsuc 9223372036854775807) y && int_lt y (pos 18446744073709551616)) ≡ false → (int_lt y (pos 0) || int_le (pos n) y) ≡ true
bad n y small far =
    elim (int_lt y (pos 0)) as (λ b. int_lt y (pos 0) ≡ b → (b || int_le (pos n) y) ≡ true) [
      | true ↦ λ s. refl
      | false ↦ λ s. at_least n y small s far
    ] refl

bits_small : (kind : Kind) → bits kind 32 ≤ 64
bits_small Char = lit≤ tt
bits_small UChar = lit≤ tt
bits_small Short = lit≤ tt
bits_small UShort = lit≤ tt
bits_small Int = lit≤ tt
bits_small UInt = lit≤ tt
bits_small Long = lit≤ tt
bits_small ULong = lit≤ tt

pub far_counts : (o : Op) (kind : Kind) (x y : ℤ) → is_shift o ≡ true → is_right_of o kind both_widths y ≡ false → applied o kind both_widths x y ≡ Err Shift
far_counts op.Shl kind x y s far = rw (bad (bits kind 32) y (bits_small kind) far) refl
far_counts op.Shr kind x y s far = rw (bad (bits kind 32) y (bits_small kind) far) refl
far_counts op.Add kind x y s far = absurd (cc)
far_counts op.Sub kind x y s far = absurd (cc)
far_counts op.Mul kind x y s far = absurd (cc)
far_counts op.Div kind x y s far = absurd (cc)
far_counts op.Rem kind x y s far = absurd (cc)
far_counts op.And kind x y s far = absurd (cc)
far_counts op.Or kind x y s far = absurd (cc)
far_counts op.Xor kind x y s far = absurd (cc)
