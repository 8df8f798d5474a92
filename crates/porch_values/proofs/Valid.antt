-- Each result is a value of its kind in each width.
use Rattle.std.proofs.Common.{◌≡◌, ℕ, ◌-◌, ◌^◌, ◌%◌, ◌+◌, ◌<◌, ◌≤◌, ℤ, pos, negsuc, ◌≤ℤ◌, ◌-ℤ◌, Bool, true, false, not, cond, ◌&&◌, ◌||◌, int_lt, int_le, Result, Ok, Err, IfOk, ltb, lit<, lit≤, refl, arith}
use Rattle.std.specs.Int.{int_rem_euclid}
use Rattle.std.specs.Ordering.{int_eq}
use Rattle.std.proofs.lemmas.Int.{ints}
use Rattle.std.proofs.lemmas.Bool.{ltb-true, ltb-false}
use Rattle.porch_types.specs.declared.shapes.Kind.{Kind}
use Rattle.porch_types.specs.declared.shapes.Kind.TheVariants.{Char, UChar, Short, UShort, Int, UInt, Long, ULong}
use Rattle.porch_values.specs.declared.acts.Act.{Act}
use Rattle.porch_values.specs.declared.acts.Act.TheVariants.{Overflow, Narrow, Divide, Shift}
use Rattle.porch_values.specs.declared.acts.Op.{Op}
use Rattle.porch_values.specs.declared.widths.Widths.{Widths}
use Rattle.porch_values.specs.Integers.{applied, converted, exact, in_range, in_some, is_bad_count, is_division, is_remainder, is_shift, is_value_of, least_of, reduced}

-- in a range
range_true : (low high z : ℤ) → low ≤ℤ z → z ≤ℤ high → (int_le low z && int_le z high) ≡ true
range_true low high z a b =
    let p : int_le low z ≡ true = grind (arith, ints) in
    let q : int_le z high ≡ true = grind (arith, ints) in
    rw (p, q) refl

each_true : (n w t u : Bool) → t ≡ true → u ≡ true → ((not n || t) && (not w || u)) ≡ true
each_true true true t u a b = rw (a, b) refl
each_true true false t u a b = rw a refl
each_true false true t u a b = rw b refl
each_true false false t u a b = refl

-- a number modulo another
low_below : (n : ℕ) (z : ℤ) → 0 < n → (m : ℕ) × (m < n) × (int_rem_euclid z (pos n) ≡ pos m)
low_below n (pos a) some = (a % n, omega arith, refl)
low_below n (negsuc a) some = (n - 1 - a % n, omega arith, refl)

unsigned_range : (n most : ℕ) (z : ℤ) → 0 < n → n ≤ most + 1 → (int_le (pos 0) (int_rem_euclid z (pos n)) && int_le (int_rem_euclid z (pos n)) (pos most)) ≡ true
unsigned_range n most z some all =
    let (m, less, same) = low_below n z some in
    rw same (range_true (pos 0) (pos most) (pos m) (omega (arith, ints)) (omega (arith, ints)))

-- the low bits as a signed number
signed_range : (l h n : ℕ) (z : ℤ) → h ≡ l + 1 → n ≡ h + h → (int_le (negsuc l) (cond (int_lt (int_rem_euclid z (pos n)) (pos h)) (int_rem_euclid z (pos n)) (int_rem_euclid z (pos n) -ℤ pos n)) && int_le (cond (int_lt (int_rem_euclid z (pos n)) (pos h)) (int_rem_euclid z (pos n)) (int_rem_euclid z (pos n) -ℤ pos n)) (pos l)) ≡ true
signed_range l h n z half all =
    let (m, less, same) = low_below n z (omega arith) in
    rw same (
    elim (ltb m h) as (λ b. ltb m h ≡ b → (int_le (negsuc l) (cond b (pos m) (pos m -ℤ pos n)) && int_le (cond b (pos m) (pos m -ℤ pos n)) (pos l)) ≡ true) [
      | true ↦ λ e. let below = ltb-true m h e in range_true (negsuc l) (pos l) (pos m) (omega (arith, ints)) (omega (arith, ints))
      | false ↦ λ e. let above = ltb-false m h e in range_true (negsuc l) (pos l) (pos m -ℤ pos n) (omega (arith, ints)) (omega (arith, ints))
    ] refl)

-- a number that passed the test
kept : (test : Bool) (z : ℤ) (act : Act) (P : ℤ → Type 0) → (test ≡ true → P z) → IfOk (cond test (Ok z) (Err act)) P
kept true z act P h = h refl
kept false z act P h = tt

refused_or : (test : Bool) (act : Act) (r : Result ℤ Act) (P : ℤ → Type 0) → IfOk r P → IfOk (cond test (Err act) r) P
refused_or true act r P h = tt
refused_or false act r P h = h

as_ulong_valid : (n w : Bool) (z : ℤ) → IfOk (cond (n && w && not (int_eq (int_rem_euclid z (pos (2 ^ 32))) (int_rem_euclid z (pos (2 ^ 64))))) (Err Narrow) (Ok (int_rem_euclid z (pos (2 ^ cond n 32 64))))) (λ v. ((not n || in_range ULong 32 v) && (not w || in_range ULong 64 v)) ≡ true)
as_ulong_valid true true z =
    let narrow = unsigned_range 4294967296 4294967295 z (lit< tt) (lit≤ tt) in
    let wide = unsigned_range 4294967296 18446744073709551615 z (lit< tt) (lit≤ tt) in
    refused_or (not (int_eq (int_rem_euclid z (pos 4294967296)) (int_rem_euclid z (pos 18446744073709551616)))) Narrow (Ok (int_rem_euclid z (pos 4294967296))) _ (each_true true true _ _ narrow wide)
as_ulong_valid true false z = rw (unsigned_range 4294967296 4294967295 z (lit< tt) (lit≤ tt)) refl
as_ulong_valid false true z = unsigned_range 18446744073709551616 18446744073709551615 z (lit< tt) (lit≤ tt)
as_ulong_valid false false z = refl

-- what is converted
pub converted_valid : (kind : Kind) (widths : Widths) (z : ℤ) → IfOk (converted kind widths z) (λ v. is_value_of kind widths v ≡ true)
converted_valid Char widths z = let h = signed_range 127 128 256 z refl refl in each_true widths.narrow widths.wide _ _ h h
converted_valid UChar widths z = let h = unsigned_range 256 255 z (lit< tt) (lit≤ tt) in each_true widths.narrow widths.wide _ _ h h
converted_valid Short widths z = let h = signed_range 32767 32768 65536 z refl refl in each_true widths.narrow widths.wide _ _ h h
converted_valid UShort widths z = let h = unsigned_range 65536 65535 z (lit< tt) (lit≤ tt) in each_true widths.narrow widths.wide _ _ h h
converted_valid Int widths z = let h = signed_range 2147483647 2147483648 4294967296 z refl refl in each_true widths.narrow widths.wide _ _ h h
converted_valid UInt widths z = let h = unsigned_range 4294967296 4294967295 z (lit< tt) (lit≤ tt) in each_true widths.narrow widths.wide _ _ h h
converted_valid Long widths z = kept (is_value_of Long widths z) z Overflow (λ v. is_value_of Long widths v ≡ true) (λ h. h)
converted_valid ULong widths z = as_ulong_valid widths.narrow widths.wide z

-- what an operator gives
pub reduced_valid : (kind : Kind) (widths : Widths) (z : ℤ) → IfOk (reduced kind widths z) (λ v. is_value_of kind widths v ≡ true)
reduced_valid Int widths z = kept (in_range Int 32 z) z Overflow (λ v. is_value_of Int widths v ≡ true) (λ h. each_true widths.narrow widths.wide _ _ h h)
reduced_valid Char widths z = converted_valid Char widths z
reduced_valid UChar widths z = converted_valid UChar widths z
reduced_valid Short widths z = converted_valid Short widths z
reduced_valid UShort widths z = converted_valid UShort widths z
reduced_valid UInt widths z = converted_valid UInt widths z
reduced_valid Long widths z = converted_valid Long widths z
reduced_valid ULong widths z = converted_valid ULong widths z

pub applied_valid : (op : Op) (kind : Kind) (widths : Widths) (a b : ℤ) → IfOk (applied op kind widths a b) (λ v. is_value_of kind widths v ≡ true)
applied_valid op kind widths a b =
    let P : ℤ → Type 0 = λ v. is_value_of kind widths v ≡ true in
    refused_or (is_division op && int_eq b (pos 0)) Divide _ P
    (refused_or (is_shift op && is_bad_count kind widths b) Shift _ P
    (refused_or (is_remainder op && int_eq b (negsuc 0) && in_some widths (λ width. int_eq a (least_of kind width))) Overflow _ P
    (reduced_valid kind widths (exact op a b))))
