-- The values of constants, and the characters of literals.
use Rattle.std.proofs.Common.{◌≡◌, ◌<◌, ◌≤◌, ◌≤ℤ◌, ◌%◌, ◌-◌, ◌-ℤ◌, ℕ, zero, suc, ℤ, pos, negsuc, List, [], ◌∷◌, ◌++◌, refl, arith, Bool, true, false}
use Rattle.std.proofs.lemmas.Bool.{ltb-false, leb-true}
use Rattle.std.proofs.lemmas.Int.{ints}
use Rattle.std.proofs.lemmas.List.Elements.{All-nil, All-cons}
use Rattle.std.specs.Prelude.{nat_le, ◌==◌, if◌then◌else◌, ◌&&◌, int_le, int_lt, drop}
use Rattle.std.specs.List.{list_any}
use Rattle.std.specs.Option.{option_map_or}
use Rattle.porch_types.specs.declared.shapes.Kind.TheVariants.{Int, UInt, Long, ULong}
use Rattle.porch_values.specs.Integers.{in_range, low_bits}
use Rattle.porch_lex.specs.Characters.{is_digit_of}
use Rattle.porch_lex.specs.Constants.{constant_base, constant_suffix, constant_value, is_u, is_l, greatest_int, greatest_unsigned, greatest_value, is_wide}
use Rattle.porch_lex.specs.Literals.{character_length}
use Rattle.porch_lex.specs.Values.{whole_of, simple_value, escape_of, character_of}
use Rattle.porch_tree.specs.Mirror.{Name}
use Rattle.porch_typed.specs.Typed.{AreBytes}
use Rattle.porch_check.specs.Constants.{suffixed_kind, whole_kind, character_value, characters_from, characters_of, all_characters}
use Rattle.porch_typing.specs.Shapes.{Each}
use Rattle.porch_typing.specs.Spelled.{IsText}

in_both : (low high z : ℤ) → low ≤ℤ z → z ≤ℤ high → (int_le low z && int_le z high) ≡ true
in_both low high z a b =
    let p : int_le low z ≡ true = grind (arith, ints) in
    let q : int_le z high ≡ true = grind (arith, ints) in
    rw (p, q) refl

int_value : (n : ℕ) → n ≤ 2147483647 → in_range Int 32 (pos n) ≡ true
int_value n h = in_both (negsuc 2147483647) (pos 2147483647) (pos n) (omega (arith, ints)) (omega (arith, ints))

long_value : (n : ℕ) → n ≤ 2147483647 → in_range Long 32 (pos n) ≡ true
long_value n h = in_both (negsuc 2147483647) (pos 2147483647) (pos n) (omega (arith, ints)) (omega (arith, ints))

unsigned_value : (n : ℕ) → n ≤ 4294967295 → in_range UInt 32 (pos n) ≡ true
unsigned_value n h = in_both (pos 0) (pos 4294967295) (pos n) (omega (arith, ints)) (omega (arith, ints))

unsigned_long_value : (n : ℕ) → n ≤ 4294967295 → in_range ULong 32 (pos n) ≡ true
unsigned_long_value n h = in_both (pos 0) (pos 4294967295) (pos n) (omega (arith, ints)) (omega (arith, ints))

by_base : (decimal : Bool) (n : ℕ) → n ≤ (if decimal then greatest_int else greatest_unsigned)
    → in_range (if decimal then Int else if nat_le n greatest_int then Int else UInt) 32 (pos n) ≡ true
by_base true n h = int_value n h
by_base false n h = by (nat_le n greatest_int) refl
  where
    by : (b : Bool) → nat_le n greatest_int ≡ b → in_range (if b then Int else UInt) 32 (pos n) ≡ true
    by true e = int_value n (leb-true n greatest_int e)
    by false e = unsigned_value n h

by_suffix : (u l : Bool) (base n : ℕ) → n ≤ (if u then greatest_unsigned else if l then greatest_int else if base == 10 then greatest_int else greatest_unsigned)
    → in_range (suffixed_kind u l base n) 32 (pos n) ≡ true
by_suffix true true base n h = unsigned_long_value n h
by_suffix true false base n h = unsigned_value n h
by_suffix false true base n h = long_value n h
by_suffix false false base n h = by_base (base == 10) n h

pub whole_in_range : (cs : List ℕ) → is_wide cs ≡ false → in_range (whole_kind cs) 32 (pos (whole_of cs)) ≡ true
whole_in_range cs h =
    let small = ltb-false (greatest_value (constant_base cs) (constant_suffix cs)) (constant_value cs) h in
    let less : whole_of cs ≤ constant_value cs = omega arith in
    by_suffix (list_any is_u (constant_suffix cs)) (list_any is_l (constant_suffix cs)) (constant_base cs) (whole_of cs) (omega (arith, small, less))

byte_value : (b : Bool) (r : ℕ) → r < 256 → in_range Int 32 (if b then pos r else pos r -ℤ pos 256) ≡ true
byte_value true r h = int_value r (omega (arith, h))
byte_value false r h = in_both (negsuc 2147483647) (pos 2147483647) (pos r -ℤ pos 256) (omega (arith, ints)) (omega (arith, ints))

pub character_in_range : (cs : List ℕ) → in_range Int 32 (character_value cs) ≡ true
character_in_range cs =
    byte_value (int_lt (low_bits 8 (pos (character_of (drop 1 cs)))) (pos 128)) (character_of (drop 1 cs) % 256) (omega arith)

-- Literals.

if_below : (b : Bool) (m n : ℕ) → m < 256 → n < 256 → (if b then m else n) < 256
if_below true m n a b = a
if_below false m n a b = b

simple_byte : (c : ℕ) → c < 256 → simple_value c < 256
simple_byte c h =
    if_below (c == 110) _ _ (omega arith) (if_below (c == 116) _ _ (omega arith) (if_below (c == 114) _ _ (omega arith) (if_below (c == 97) _ _ (omega arith)
    (if_below (c == 98) _ _ (omega arith) (if_below (c == 102) _ _ (omega arith) (if_below (c == 118) _ _ (omega arith) h))))))

escape_byte : (cs : List ℕ) → Each (λ b. b < 256) cs → escape_of cs < 256
escape_byte [] h = omega arith
escape_byte (c ∷ cs) h =
    if_below (is_digit_of 8 c) _ _ (omega arith) (if_below (c == 120) _ _ (omega arith) (simple_byte c h.0))

character_byte : (c : ℕ) (cs : List ℕ) → Each (λ b. b < 256) (c ∷ cs) → character_of (c ∷ cs) < 256
character_byte c cs h = if_below (c == 92) _ _ (escape_byte cs h.1) h.0

characters_bytes : (cs : List ℕ) (n : ℕ) → Each (λ b. b < 256) cs → AreBytes (characters_from cs n)
characters_bytes [] n h = All-nil (λ b. b < 256)
characters_bytes (c ∷ cs) (suc n) h = characters_bytes cs n h.1
characters_bytes (c ∷ cs) zero h = by (c == 34) (characters_bytes cs (option_map_or (λ n. n - 1) (character_length 34 (c ∷ cs)) 0) h.1)
  where
    by : (b : Bool) → AreBytes (characters_from cs (option_map_or (λ n. n - 1) (character_length 34 (c ∷ cs)) 0))
        → AreBytes (if b then [] else character_of (c ∷ cs) ∷ characters_from cs (option_map_or (λ n. n - 1) (character_length 34 (c ∷ cs)) 0))
    by true rest = All-nil (λ b. b < 256)
    by false rest = All-cons (λ b. b < 256) (character_of (c ∷ cs)) _ (character_byte c cs h) rest

joined_bytes : (xs ys : List ℕ) → AreBytes xs → AreBytes ys → AreBytes (xs ++ ys)
joined_bytes [] ys a b = b
joined_bytes (x ∷ xs) ys a b =
    All-cons (λ b. b < 256) x (xs ++ ys) (Rattle.std.proofs.lemmas.List.Elements.All-head (λ b. b < 256) x xs a)
    (joined_bytes xs ys (Rattle.std.proofs.lemmas.List.Elements.All-tail (λ b. b < 256) x xs a) b)

without_quote : (cs : List ℕ) → Each (λ b. b < 256) cs → Each (λ b. b < 256) (drop 1 cs)
without_quote [] h = tt
without_quote (c ∷ cs) h = h.1

pub literal_bytes : (ns : List Name) → Each IsText ns → AreBytes (all_characters ns)
literal_bytes [] h = All-nil (λ b. b < 256)
literal_bytes (n ∷ ns) h = joined_bytes (characters_of n) (all_characters ns) (characters_bytes (drop 1 n.bytes) 0 (without_quote n.bytes h.0)) (literal_bytes ns h.1)
