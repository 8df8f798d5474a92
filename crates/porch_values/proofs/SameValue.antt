-- A value of a kind converts to itself.
use Rattle.std.proofs.Common.{◌≡◌, ℕ, ◌-◌, ◌%◌, ◌+◌, ◌<◌, inl, inr, ℤ, pos, negsuc, ◌≤ℤ◌, ◌-ℤ◌, Bool, true, false, not, cond, ◌&&◌, ◌||◌, int_lt, Result, Ok, Err, lit<, refl, arith, ap}
use Rattle.std.specs.Int.{int_rem_euclid}
use Rattle.std.specs.Ordering.{int_eq}
use Rattle.std.proofs.lemmas.Int.{ints}
use Rattle.std.proofs.Math.Nat.{mod-eq_of_lt}
use Rattle.std.proofs.lemmas.Bool.{and_parts}
use Rattle.porch_types.specs.declared.shapes.Kind.{Kind}
use Rattle.porch_types.specs.declared.shapes.Kind.TheVariants.{Char, UChar, Short, UShort, Int, UInt, Long, ULong}
use Rattle.porch_values.specs.declared.acts.Act.{Act}
use Rattle.porch_values.specs.declared.acts.Act.TheVariants.{Overflow, Narrow}
use Rattle.porch_values.specs.declared.widths.Widths.{Widths}
use Rattle.porch_values.specs.Integers.{converted, in_range, is_value_of, low_bits}
use Rattle.porch_values.proofs.Bounds.{bounded, each_cases}

-- a number below another, modulo it
low_same : (n most : ℕ) (z : ℤ) → most < n → pos 0 ≤ℤ z → z ≤ℤ pos most → int_rem_euclid z (pos n) ≡ z
low_same n most (pos a) less low high = let l : a < n = omega (arith, ints) in ap pos (mod-eq_of_lt l)
low_same n most (negsuc a) less low high = absurd (omega (arith, ints))

-- a number in the middle, modulo another and back
signed_same : (l h n : ℕ) (z : ℤ) → h ≡ l + 1 → n ≡ h + h → negsuc l ≤ℤ z → z ≤ℤ pos l
    → cond (int_lt (int_rem_euclid z (pos n)) (pos h)) (int_rem_euclid z (pos n)) (int_rem_euclid z (pos n) -ℤ pos n) ≡ z
signed_same l h n (pos a) half all low high =
    let b : a < n = omega (arith, ints) in
    let m : a % n ≡ a = mod-eq_of_lt b in
    let t : int_lt (pos a) (pos h) ≡ true = grind (arith, ints) in
    rw (m, t) refl
signed_same l h n (negsuc a) half all low high =
    let b : a < n = omega (arith, ints) in
    let m : a % n ≡ a = mod-eq_of_lt b in
    let t : int_lt (pos (n - 1 - a)) (pos h) ≡ false = grind (arith, ints) in
    let e : pos (n - 1 - a) -ℤ pos n ≡ negsuc a = omega (arith, ints) in
    rw (m, t) e

one_range : (widths : Widths) (t : Bool) → (widths.narrow || widths.wide) ≡ true → ((not widths.narrow || t) && (not widths.wide || t)) ≡ true → t ≡ true
one_range widths t some h = elim (each_cases widths.narrow widths.wide t t some h) [ inl e ↦ e | inr e ↦ e ]

ulong_same : (n w : Bool) (z : ℤ) → (n || w) ≡ true → ((not n || in_range ULong 32 z) && (not w || in_range ULong 64 z)) ≡ true
    → let r : Result ℤ Act = cond (n && w && not (int_eq (low_bits 32 z) (low_bits 64 z))) (Err Narrow) (Ok (low_bits (cond n 32 64) z)) in r ≡ Ok z
ulong_same true true z some h =
    let p = and_parts (in_range ULong 32 z) (in_range ULong 64 z) h in
    let b = bounded (pos 0) (pos 4294967295) z p.0 in
    let narrow : int_rem_euclid z (pos 4294967296) ≡ z = low_same 4294967296 4294967295 z (lit< tt) b.0 b.1 in
    let c = bounded (pos 0) (pos 18446744073709551615) z p.1 in
    let wide : int_rem_euclid z (pos 18446744073709551616) ≡ z = low_same 18446744073709551616 18446744073709551615 z (lit< tt) c.0 c.1 in
    let same : int_eq z z ≡ true = grind (arith, ints) in
    rw (narrow, wide, same) refl
ulong_same true false z some h =
    let p = and_parts (in_range ULong 32 z) true h in
    let b = bounded (pos 0) (pos 4294967295) z p.0 in
    ap Ok (low_same 4294967296 4294967295 z (lit< tt) b.0 b.1)
ulong_same false true z some h =
    let c = bounded (pos 0) (pos 18446744073709551615) z h in
    ap Ok (low_same 18446744073709551616 18446744073709551615 z (lit< tt) c.0 c.1)
ulong_same false false z some h = cc

pub same_value : (kind : Kind) (widths : Widths) (z : ℤ) → (widths.narrow || widths.wide) ≡ true → is_value_of kind widths z ≡ true → converted kind widths z ≡ Ok z
same_value Char widths z some h =
    let b = bounded (negsuc 127) (pos 127) z (one_range widths (in_range Char 32 z) some h) in ap Ok (signed_same 127 128 256 z refl refl b.0 b.1)
same_value UChar widths z some h =
    let b = bounded (pos 0) (pos 255) z (one_range widths (in_range UChar 32 z) some h) in ap Ok (low_same 256 255 z (lit< tt) b.0 b.1)
same_value Short widths z some h =
    let b = bounded (negsuc 32767) (pos 32767) z (one_range widths (in_range Short 32 z) some h) in ap Ok (signed_same 32767 32768 65536 z refl refl b.0 b.1)
same_value UShort widths z some h =
    let b = bounded (pos 0) (pos 65535) z (one_range widths (in_range UShort 32 z) some h) in ap Ok (low_same 65536 65535 z (lit< tt) b.0 b.1)
same_value Int widths z some h =
    let b = bounded (negsuc 2147483647) (pos 2147483647) z (one_range widths (in_range Int 32 z) some h) in
    ap Ok (signed_same 2147483647 2147483648 4294967296 z refl refl b.0 b.1)
same_value UInt widths z some h =
    let b = bounded (pos 0) (pos 4294967295) z (one_range widths (in_range UInt 32 z) some h) in ap Ok (low_same 4294967296 4294967295 z (lit< tt) b.0 b.1)
same_value Long widths z some h = let done : Result ℤ Act = Ok z in ap (λ b. cond b done (Err Overflow)) h
same_value ULong widths z some h = ulong_same widths.narrow widths.wide z some h
