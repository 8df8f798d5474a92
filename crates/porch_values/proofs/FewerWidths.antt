-- What has a result in some widths has the same in fewer of them.
use Rattle.std.proofs.Common.{◌≡◌, ◌≢◌, ◌^◌, ℤ, pos, negsuc, ◌-ℤ◌, Bool, true, false, not, cond, ◌&&◌, ◌||◌, int_lt, int_le, Result, Ok, Err, refl, arith, ap, sym, ◌∙◌}
use Rattle.std.specs.Ordering.{int_eq}
use Rattle.std.proofs.lemmas.Int.{ints}
use Rattle.porch_types.specs.declared.shapes.Kind.{Kind}
use Rattle.porch_types.specs.declared.shapes.Kind.TheVariants.{Char, UChar, Short, UShort, Int, UInt, Long, ULong}
use Rattle.porch_values.specs.declared.acts.Act.{Act}
use Rattle.porch_values.specs.declared.acts.Act.TheVariants.{Overflow, Narrow, Divide, Shift}
use Rattle.porch_values.specs.declared.acts.Op.{Op}
use Rattle.porch_values.specs.declared.widths.Widths.{Widths}
use Rattle.porch_values.specs.Integers.{applied, complemented, converted, exact, in_range, in_some, is_bad_count, is_division, is_remainder, is_right_of, is_shift, is_value_of, least_of, reduced, low_bits, bits}
use Rattle.porch_values.specs.Widths.{AreWithin}

-- a test in each width, and in some
each_fewer : (n w m v t u : Bool) → (m ≡ true → n ≡ true) → (v ≡ true → w ≡ true) → ((not n || t) && (not w || u)) ≡ true → ((not m || t) && (not v || u)) ≡ true
each_fewer true true true true t u a b h = h
each_fewer true true true false true u a b h = refl
each_fewer true true true false false u a b h = cc
each_fewer true true false true true u a b h = h
each_fewer true true false true false u a b h = cc
each_fewer n w false false t u a b h = refl
each_fewer true false true true t u a b h = let e : false ≡ true = b refl in cc
each_fewer true false true false t u a b h = h
each_fewer true false false true t u a b h = let e : false ≡ true = b refl in cc
each_fewer false w true v t u a b h = let e : false ≡ true = a refl in cc
each_fewer false true false true t u a b h = h
each_fewer false false false true t u a b h = let e : false ≡ true = b refl in cc

some_fewer : (n w m v t u : Bool) → (m ≡ true → n ≡ true) → (v ≡ true → w ≡ true) → ((n && t) || (w && u)) ≡ false → ((m && t) || (v && u)) ≡ false
some_fewer n w false false t u a b h = refl
some_fewer true true true true t u a b h = h
some_fewer true w true false true u a b h = cc
some_fewer true w true false false u a b h = refl
some_fewer true false true true t u a b h = let e : false ≡ true = b refl in cc
some_fewer false w true v t u a b h = let e : false ≡ true = a refl in cc
some_fewer n false false true t u a b h = let e : false ≡ true = b refl in cc
some_fewer true true false true true u a b h = cc
some_fewer true true false true false u a b h = h
some_fewer false true false true t u a b h = h

-- an Ok behind a test
passed : (t : Bool) (act : Act) (r : Result ℤ Act) (z : ℤ) → cond t (Err act) r ≡ Ok z → (t ≡ false) × (r ≡ Ok z)
passed true act r z h = cc
passed false act r z h = (refl, h)

passed_test : (t : Bool) (act : Act) (a z : ℤ) → cond t (Ok a) (Err act) ≡ Ok z → (t ≡ true) × (a ≡ z)
passed_test true act a z h = let e : a ≡ z = cc in (refl, e)
passed_test false act a z h = cc

and_false : (a b c : Bool) → (b ≡ false → c ≡ false) → (a && b) ≡ false → (a && c) ≡ false
and_false true b c f h = f h
and_false false b c f h = refl

or_false : (a b c : Bool) → (b ≡ false → c ≡ false) → (a || b) ≡ false → (a || c) ≡ false
or_false true b c f h = h
or_false false b c f h = f h

-- values
pub value_fewer : (kind : Kind) (widths fewer : Widths) (z : ℤ) → AreWithin fewer widths → is_value_of kind widths z ≡ true → is_value_of kind fewer z ≡ true
value_fewer kind widths fewer z in_it h =
    each_fewer widths.narrow widths.wide fewer.narrow fewer.wide (in_range kind 32 z) (in_range kind 64 z) in_it.narrow in_it.wide h

pub right_fewer : (op : Op) (kind : Kind) (widths fewer : Widths) (z : ℤ) → AreWithin fewer widths → is_right_of op kind widths z ≡ true → is_right_of op kind fewer z ≡ true
right_fewer op kind widths fewer z in_it h =
    elim (is_shift op) as (λ t. cond t (int_le (negsuc 9223372036854775807) z && int_lt z (pos (2 ^ 64))) (is_value_of kind widths z) ≡ true
    → cond t (int_le (negsuc 9223372036854775807) z && int_lt z (pos (2 ^ 64))) (is_value_of kind fewer z) ≡ true)
    [ true ↦ λ k. k | false ↦ λ k. value_fewer kind widths fewer z in_it k ] h

-- an unsigned long
same_low : (a b : ℤ) → not (int_eq a b) ≡ false → a ≡ b
same_low a b h = grind (arith, ints)

ulong_fewer : (n w m v : Bool) (z x : ℤ) → (m || v) ≡ true → (m ≡ true → n ≡ true) → (v ≡ true → w ≡ true)
    → cond (n && w && not (int_eq (low_bits 32 z) (low_bits 64 z))) (Err Narrow) (Ok (low_bits (cond n 32 64) z)) ≡ Ok x
    → cond (m && v && not (int_eq (low_bits 32 z) (low_bits 64 z))) (Err Narrow) (Ok (low_bits (cond m 32 64) z)) ≡ Ok x
ulong_fewer n w false false z x some a b h = cc
ulong_fewer true true true true z x some a b h = h
ulong_fewer true true true false z x some a b h = (passed (not (int_eq (low_bits 32 z) (low_bits 64 z))) Narrow (Ok (low_bits 32 z)) x h).1
ulong_fewer true true false true z x some a b h =
    let p = passed (not (int_eq (low_bits 32 z) (low_bits 64 z))) Narrow (Ok (low_bits 32 z)) x h in
    let same : low_bits 32 z ≡ low_bits 64 z = same_low (low_bits 32 z) (low_bits 64 z) p.0 in
    let ok : ℤ → Result ℤ Act = Ok in
    ap ok (sym same) ∙ p.1
ulong_fewer true false true true z x some a b h = let e : false ≡ true = b refl in cc
ulong_fewer true false true false z x some a b h = h
ulong_fewer true false false true z x some a b h = let e : false ≡ true = b refl in cc
ulong_fewer false w true v z x some a b h = let e : false ≡ true = a refl in cc
ulong_fewer false true false true z x some a b h = h
ulong_fewer false false false true z x some a b h = let e : false ≡ true = b refl in cc

-- conversions, operators and complements
pub converted_fewer : (kind : Kind) (widths fewer : Widths) (a z : ℤ) → AreWithin fewer widths → converted kind widths a ≡ Ok z → converted kind fewer a ≡ Ok z
converted_fewer Char widths fewer a z in_it h = h
converted_fewer UChar widths fewer a z in_it h = h
converted_fewer Short widths fewer a z in_it h = h
converted_fewer UShort widths fewer a z in_it h = h
converted_fewer Int widths fewer a z in_it h = h
converted_fewer UInt widths fewer a z in_it h = h
converted_fewer Long widths fewer a z in_it h =
    let p = passed_test (is_value_of Long widths a) Overflow a z h in
    let t : is_value_of Long fewer a ≡ true = value_fewer Long widths fewer a in_it p.0 in
    let done : Result ℤ Act = Ok a in
    ap (λ b. cond b done (Err Overflow)) t ∙ ap Ok p.1
converted_fewer ULong widths fewer a z in_it h = ulong_fewer widths.narrow widths.wide fewer.narrow fewer.wide a z in_it.some in_it.narrow in_it.wide h

pub reduced_fewer : (kind : Kind) (widths fewer : Widths) (a z : ℤ) → AreWithin fewer widths → reduced kind widths a ≡ Ok z → reduced kind fewer a ≡ Ok z
reduced_fewer Int widths fewer a z in_it h = h
reduced_fewer Char widths fewer a z in_it h = h
reduced_fewer UChar widths fewer a z in_it h = h
reduced_fewer Short widths fewer a z in_it h = h
reduced_fewer UShort widths fewer a z in_it h = h
reduced_fewer UInt widths fewer a z in_it h = h
reduced_fewer Long widths fewer a z in_it h = converted_fewer Long widths fewer a z in_it h
reduced_fewer ULong widths fewer a z in_it h = converted_fewer ULong widths fewer a z in_it h

pub complemented_fewer : (kind : Kind) (widths fewer : Widths) (a z : ℤ) → AreWithin fewer widths → complemented kind widths a ≡ Ok z → complemented kind fewer a ≡ Ok z
complemented_fewer kind widths fewer a z in_it h = reduced_fewer kind widths fewer (negsuc 0 -ℤ a) z in_it h

-- a shift's count
more_bits : (b : ℤ) → int_le (pos 32) b ≡ false → int_le (pos 64) b ≡ false
more_bits b h = grind (arith, ints)

count_bits : (n m : Bool) (b : ℤ) → (m ≡ true → n ≡ true) → int_le (pos (cond n 32 64)) b ≡ false → int_le (pos (cond m 32 64)) b ≡ false
count_bits true true b a h = h
count_bits true false b a h = more_bits b h
count_bits false true b a h = let e : false ≡ true = a refl in cc
count_bits false false b a h = h

few_bits : (kind : Kind) (n m : Bool) (b : ℤ) → (m ≡ true → n ≡ true) → int_le (pos (bits kind (cond n 32 64))) b ≡ false → int_le (pos (bits kind (cond m 32 64))) b ≡ false
few_bits Char n m b a h = h
few_bits UChar n m b a h = h
few_bits Short n m b a h = h
few_bits UShort n m b a h = h
few_bits Int n m b a h = h
few_bits UInt n m b a h = h
few_bits Long n m b a h = count_bits n m b a h
few_bits ULong n m b a h = count_bits n m b a h

count_fewer : (kind : Kind) (widths fewer : Widths) (b : ℤ) → AreWithin fewer widths → is_bad_count kind widths b ≡ false → is_bad_count kind fewer b ≡ false
count_fewer kind widths fewer b in_it h =
    or_false (int_lt b (pos 0)) (int_le (pos (bits kind (cond widths.narrow 32 64))) b) (int_le (pos (bits kind (cond fewer.narrow 32 64))) b)
    (few_bits kind widths.narrow fewer.narrow b in_it.narrow) h

least_fewer : (kind : Kind) (widths fewer : Widths) (a : ℤ) → AreWithin fewer widths
    → in_some widths (λ width. int_eq a (least_of kind width)) ≡ false → in_some fewer (λ width. int_eq a (least_of kind width)) ≡ false
least_fewer kind widths fewer a in_it h =
    some_fewer widths.narrow widths.wide fewer.narrow fewer.wide (int_eq a (least_of kind 32)) (int_eq a (least_of kind 64)) in_it.narrow in_it.wide h

pub applied_fewer : (op : Op) (kind : Kind) (widths fewer : Widths) (a b z : ℤ) → AreWithin fewer widths → applied op kind widths a b ≡ Ok z → applied op kind fewer a b ≡ Ok z
applied_fewer op kind widths fewer a b z in_it h =
    let least : Widths → Bool = λ w. in_some w (λ width. int_eq a (least_of kind width)) in
    let divide : Bool = is_division op && int_eq b (pos 0) in
    let d = passed divide Divide _ z h in
    let s = passed (is_shift op && is_bad_count kind widths b) Shift _ z d.1 in
    let r = passed (is_remainder op && int_eq b (negsuc 0) && least widths) Overflow _ z s.1 in
    let shift : (is_shift op && is_bad_count kind fewer b) ≡ false = and_false (is_shift op) (is_bad_count kind widths b) (is_bad_count kind fewer b) (count_fewer kind widths fewer b in_it) s.0 in
    let rest : (is_remainder op && int_eq b (negsuc 0) && least fewer) ≡ false = and_false (is_remainder op && int_eq b (negsuc 0)) (least widths) (least fewer) (least_fewer kind widths fewer a in_it) r.0 in
    let result : reduced kind fewer (exact op a b) ≡ Ok z = reduced_fewer kind widths fewer (exact op a b) z in_it r.1 in
    rw (d.0, shift, rest) result

-- with one width no result differs between the widths
never_narrow : (n w : Bool) (t : Bool) (x : ℤ) → (n && w) ≡ false → let r : Result ℤ Act = cond (n && w && t) (Err Narrow) (Ok x) in r ≢ Err Narrow
never_narrow true true t x h = cc
never_narrow true false t x h = λ e. cc
never_narrow false w t x h = λ e. cc

overflow_or : (t : Bool) (x : ℤ) → let r : Result ℤ Act = cond t (Ok x) (Err Overflow) in r ≢ Err Narrow
overflow_or true x = λ e. cc
overflow_or false x = λ e. cc

pub converted_never : (kind : Kind) (widths : Widths) (a : ℤ) → (widths.narrow && widths.wide) ≡ false → converted kind widths a ≢ Err Narrow
converted_never Char widths a h = λ e. cc
converted_never UChar widths a h = λ e. cc
converted_never Short widths a h = λ e. cc
converted_never UShort widths a h = λ e. cc
converted_never Int widths a h = λ e. cc
converted_never UInt widths a h = λ e. cc
converted_never Long widths a h = overflow_or (is_value_of Long widths a) a
converted_never ULong widths a h = never_narrow widths.narrow widths.wide (not (int_eq (low_bits 32 a) (low_bits 64 a))) (low_bits (cond widths.narrow 32 64) a) h

pub reduced_never : (kind : Kind) (widths : Widths) (a : ℤ) → (widths.narrow && widths.wide) ≡ false → reduced kind widths a ≢ Err Narrow
reduced_never Int widths a h = overflow_or (in_range Int 32 a) a
reduced_never Char widths a h = converted_never Char widths a h
reduced_never UChar widths a h = converted_never UChar widths a h
reduced_never Short widths a h = converted_never Short widths a h
reduced_never UShort widths a h = converted_never UShort widths a h
reduced_never UInt widths a h = converted_never UInt widths a h
reduced_never Long widths a h = converted_never Long widths a h
reduced_never ULong widths a h = converted_never ULong widths a h

other_or : (t : Bool) (act : Act) (r : Result ℤ Act) → act ≢ Narrow → r ≢ Err Narrow → cond t (Err act) r ≢ Err Narrow
other_or true act r other rest = λ e. let s : act ≡ Narrow = cc in other s
other_or false act r other rest = rest

pub applied_never : (op : Op) (kind : Kind) (widths : Widths) (a b : ℤ) → (widths.narrow && widths.wide) ≡ false → applied op kind widths a b ≢ Err Narrow
applied_never op kind widths a b h =
    other_or (is_division op && int_eq b (pos 0)) Divide _ (λ e. cc)
    (other_or (is_shift op && is_bad_count kind widths b) Shift _ (λ e. cc)
    (other_or (is_remainder op && int_eq b (negsuc 0) && in_some widths (λ width. int_eq a (least_of kind width))) Overflow _ (λ e. cc)
    (reduced_never kind widths (exact op a b) h)))
