-- A number that is written is read back.
use Rattle.std.proofs.Common.{◌≡◌, ◌<◌, ℕ, ◌+◌, ◌-◌, ◌%◌, ◌^◌, refl, sym, ap, ◌∙◌, arith, List, length, Bool, true, false, IsTrue}
use Rattle.std.specs.Prelude.{ℤ, pos, negsuc, neg_ℤ, ◌-ℤ◌, int_lt, int_le, if◌then◌else◌}
use Rattle.std.proofs.lemmas.Int.{ints}
use Rattle.std.proofs.lemmas.Bool.{lt-ltb, le-ltb}
use Rattle.porch_bytes.specs.declared.shape.Shape.{Shape}
use Rattle.porch_bytes.specs.declared.shape.Shape.TheVariants.{I8, U8, I16, U16, I32, U32, I64, U64}
use Rattle.porch_bytes.specs.Leaf.{number_of, digits, encoded, decoded, part, spliced, PartsStay}
use Rattle.porch_bytes.specs.Shapes.{size_in, has_sign_in, is_in_shape, NumbersAreReadBack}
use Rattle.porch_bytes.proofs.Parts.{parts_stay, encoded_length}
use Rattle.porch_bytes.proofs.Conjunctions.{first, second}

-- a number from its low bits
value : (whole half m : ℕ) → ℤ
value whole half m = if int_lt (pos m) (pos half) then pos m else (pos m -ℤ pos whole)

value_low : (whole half a : ℕ) → a < half → value whole half a ≡ pos a
unfolding value
value_low whole half a h = rw (lt-ltb a half h) refl

value_high : (whole half a : ℕ) → a < half → whole ≡ half + half → value whole half (whole - 1 - a) ≡ negsuc a
unfolding value
value_high whole half a h e = rw (le-ltb (whole - 1 - a) half (omega (arith, h, e))) (omega (arith, ints))

back_1 : (n : ℕ) → n < 2 ^ 8 → number_of (digits 1 n) ≡ n
back_1 n h = omega (arith, h)

little_1 : (z : ℤ) → int_le (neg_ℤ (pos (2 ^ 7))) z ≡ true → int_le z (pos (2 ^ 7 - 1)) ≡ true → decoded false true (encoded false 1 z) ≡ z
unfolding value
little_1 (pos a) l h =
    let few : a < 2 ^ 7 = grind (arith, ints) in
    let e : number_of (digits 1 (a % 2 ^ 8)) % 2 ^ 8 ≡ a = omega (arith, few, back_1 (a % 2 ^ 8) (omega arith)) in
    ap (λ (m : ℕ). value (2 ^ 8) (2 ^ 7) m) e ∙ value_low (2 ^ 8) (2 ^ 7) a few
little_1 (negsuc a) l h =
    let few : a < 2 ^ 7 = grind (arith, ints) in
    let e : number_of (digits 1 (2 ^ 8 - 1 - a % 2 ^ 8)) % 2 ^ 8 ≡ 2 ^ 8 - 1 - a =
    omega (arith, few, back_1 (2 ^ 8 - 1 - a % 2 ^ 8) (omega arith)) in
    ap (λ (m : ℕ). value (2 ^ 8) (2 ^ 7) m) e ∙ value_high (2 ^ 8) (2 ^ 7) a few refl

back_2 : (n : ℕ) → n < 2 ^ 16 → number_of (digits 2 n) ≡ n
back_2 n h = omega (arith, h)

little_2 : (z : ℤ) → int_le (neg_ℤ (pos (2 ^ 15))) z ≡ true → int_le z (pos (2 ^ 15 - 1)) ≡ true → decoded false true (encoded false 2 z) ≡ z
unfolding value
little_2 (pos a) l h =
    let few : a < 2 ^ 15 = grind (arith, ints) in
    let e : number_of (digits 2 (a % 2 ^ 16)) % 2 ^ 16 ≡ a = omega (arith, few, back_2 (a % 2 ^ 16) (omega arith)) in
    ap (λ (m : ℕ). value (2 ^ 16) (2 ^ 15) m) e ∙ value_low (2 ^ 16) (2 ^ 15) a few
little_2 (negsuc a) l h =
    let few : a < 2 ^ 15 = grind (arith, ints) in
    let e : number_of (digits 2 (2 ^ 16 - 1 - a % 2 ^ 16)) % 2 ^ 16 ≡ 2 ^ 16 - 1 - a =
    omega (arith, few, back_2 (2 ^ 16 - 1 - a % 2 ^ 16) (omega arith)) in
    ap (λ (m : ℕ). value (2 ^ 16) (2 ^ 15) m) e ∙ value_high (2 ^ 16) (2 ^ 15) a few refl

back_4 : (n : ℕ) → n < 2 ^ 32 → number_of (digits 4 n) ≡ n
back_4 n h = omega (arith, h)

little_4 : (z : ℤ) → int_le (neg_ℤ (pos (2 ^ 31))) z ≡ true → int_le z (pos (2 ^ 31 - 1)) ≡ true → decoded false true (encoded false 4 z) ≡ z
unfolding value
little_4 (pos a) l h =
    let few : a < 2 ^ 31 = grind (arith, ints) in
    let e : number_of (digits 4 (a % 2 ^ 32)) % 2 ^ 32 ≡ a = omega (arith, few, back_4 (a % 2 ^ 32) (omega arith)) in
    ap (λ (m : ℕ). value (2 ^ 32) (2 ^ 31) m) e ∙ value_low (2 ^ 32) (2 ^ 31) a few
little_4 (negsuc a) l h =
    let few : a < 2 ^ 31 = grind (arith, ints) in
    let e : number_of (digits 4 (2 ^ 32 - 1 - a % 2 ^ 32)) % 2 ^ 32 ≡ 2 ^ 32 - 1 - a =
    omega (arith, few, back_4 (2 ^ 32 - 1 - a % 2 ^ 32) (omega arith)) in
    ap (λ (m : ℕ). value (2 ^ 32) (2 ^ 31) m) e ∙ value_high (2 ^ 32) (2 ^ 31) a few refl

back_8 : (n : ℕ) → n < 2 ^ 64 → number_of (digits 8 n) ≡ n
back_8 n h = omega (arith, h)

little_8 : (z : ℤ) → int_le (neg_ℤ (pos (2 ^ 63))) z ≡ true → int_le z (pos (2 ^ 63 - 1)) ≡ true → decoded false true (encoded false 8 z) ≡ z
unfolding value
little_8 (pos a) l h =
    let few : a < 2 ^ 63 = grind (arith, ints) in
    let e : number_of (digits 8 (a % 2 ^ 64)) % 2 ^ 64 ≡ a = omega (arith, few, back_8 (a % 2 ^ 64) (omega arith)) in
    ap (λ (m : ℕ). value (2 ^ 64) (2 ^ 63) m) e ∙ value_low (2 ^ 64) (2 ^ 63) a few
little_8 (negsuc a) l h =
    let few : a < 2 ^ 63 = grind (arith, ints) in
    let e : number_of (digits 8 (2 ^ 64 - 1 - a % 2 ^ 64)) % 2 ^ 64 ≡ 2 ^ 64 - 1 - a =
    omega (arith, few, back_8 (2 ^ 64 - 1 - a % 2 ^ 64) (omega arith)) in
    ap (λ (m : ℕ). value (2 ^ 64) (2 ^ 63) m) e ∙ value_high (2 ^ 64) (2 ^ 63) a few refl

signed_1 : (big : Bool) (z : ℤ) → int_le (neg_ℤ (pos (2 ^ 7))) z ≡ true → int_le z (pos (2 ^ 7 - 1)) ≡ true → decoded big true (encoded big 1 z) ≡ z
signed_1 true z l h = little_1 z l h
signed_1 false z l h = little_1 z l h

plain_1 : (z : ℤ) → int_le (pos 0) z ≡ true → int_le z (pos (2 ^ 8 - 1)) ≡ true → decoded false false (encoded false 1 z) ≡ z
plain_1 (pos a) l h =
    let few : a < 2 ^ 8 = grind (arith, ints) in
    let e : number_of (digits 1 (a % 2 ^ 8)) ≡ a = omega (arith, few, back_1 (a % 2 ^ 8) (omega arith)) in
    ap pos e
plain_1 (negsuc a) l h = absurd (grind (arith, ints))

unsigned_1 : (big : Bool) (z : ℤ) → int_le (pos 0) z ≡ true → int_le z (pos (2 ^ 8 - 1)) ≡ true → decoded big false (encoded big 1 z) ≡ z
unsigned_1 true z l h = plain_1 z l h
unsigned_1 false z l h = plain_1 z l h

signed_2 : (big : Bool) (z : ℤ) → int_le (neg_ℤ (pos (2 ^ 15))) z ≡ true → int_le z (pos (2 ^ 15 - 1)) ≡ true → decoded big true (encoded big 2 z) ≡ z
signed_2 true z l h = little_2 z l h
signed_2 false z l h = little_2 z l h

plain_2 : (z : ℤ) → int_le (pos 0) z ≡ true → int_le z (pos (2 ^ 16 - 1)) ≡ true → decoded false false (encoded false 2 z) ≡ z
plain_2 (pos a) l h =
    let few : a < 2 ^ 16 = grind (arith, ints) in
    let e : number_of (digits 2 (a % 2 ^ 16)) ≡ a = omega (arith, few, back_2 (a % 2 ^ 16) (omega arith)) in
    ap pos e
plain_2 (negsuc a) l h = absurd (grind (arith, ints))

unsigned_2 : (big : Bool) (z : ℤ) → int_le (pos 0) z ≡ true → int_le z (pos (2 ^ 16 - 1)) ≡ true → decoded big false (encoded big 2 z) ≡ z
unsigned_2 true z l h = plain_2 z l h
unsigned_2 false z l h = plain_2 z l h

signed_4 : (big : Bool) (z : ℤ) → int_le (neg_ℤ (pos (2 ^ 31))) z ≡ true → int_le z (pos (2 ^ 31 - 1)) ≡ true → decoded big true (encoded big 4 z) ≡ z
signed_4 true z l h = little_4 z l h
signed_4 false z l h = little_4 z l h

plain_4 : (z : ℤ) → int_le (pos 0) z ≡ true → int_le z (pos (2 ^ 32 - 1)) ≡ true → decoded false false (encoded false 4 z) ≡ z
plain_4 (pos a) l h =
    let few : a < 2 ^ 32 = grind (arith, ints) in
    let e : number_of (digits 4 (a % 2 ^ 32)) ≡ a = omega (arith, few, back_4 (a % 2 ^ 32) (omega arith)) in
    ap pos e
plain_4 (negsuc a) l h = absurd (grind (arith, ints))

unsigned_4 : (big : Bool) (z : ℤ) → int_le (pos 0) z ≡ true → int_le z (pos (2 ^ 32 - 1)) ≡ true → decoded big false (encoded big 4 z) ≡ z
unsigned_4 true z l h = plain_4 z l h
unsigned_4 false z l h = plain_4 z l h

signed_8 : (big : Bool) (z : ℤ) → int_le (neg_ℤ (pos (2 ^ 63))) z ≡ true → int_le z (pos (2 ^ 63 - 1)) ≡ true → decoded big true (encoded big 8 z) ≡ z
signed_8 true z l h = little_8 z l h
signed_8 false z l h = little_8 z l h

plain_8 : (z : ℤ) → int_le (pos 0) z ≡ true → int_le z (pos (2 ^ 64 - 1)) ≡ true → decoded false false (encoded false 8 z) ≡ z
plain_8 (pos a) l h =
    let few : a < 2 ^ 64 = grind (arith, ints) in
    let e : number_of (digits 8 (a % 2 ^ 64)) ≡ a = omega (arith, few, back_8 (a % 2 ^ 64) (omega arith)) in
    ap pos e
plain_8 (negsuc a) l h = absurd (grind (arith, ints))

unsigned_8 : (big : Bool) (z : ℤ) → int_le (pos 0) z ≡ true → int_le z (pos (2 ^ 64 - 1)) ≡ true → decoded big false (encoded big 8 z) ≡ z
unsigned_8 true z l h = plain_8 z l h
unsigned_8 false z l h = plain_8 z l h

decoded_back : (big : Bool) (shape : Shape) (z : ℤ) → IsTrue (is_in_shape shape z) → decoded big (has_sign_in shape) (encoded big (size_in shape) z) ≡ z
decoded_back big I8 z h = signed_1 big z (first (int_le (neg_ℤ (pos (2 ^ 7))) z) (int_le z (pos (2 ^ 7 - 1))) h) (second (int_le (neg_ℤ (pos (2 ^ 7))) z) (int_le z (pos (2 ^ 7 - 1))) h)
decoded_back big I16 z h = signed_2 big z (first (int_le (neg_ℤ (pos (2 ^ 15))) z) (int_le z (pos (2 ^ 15 - 1))) h) (second (int_le (neg_ℤ (pos (2 ^ 15))) z) (int_le z (pos (2 ^ 15 - 1))) h)
decoded_back big I32 z h = signed_4 big z (first (int_le (neg_ℤ (pos (2 ^ 31))) z) (int_le z (pos (2 ^ 31 - 1))) h) (second (int_le (neg_ℤ (pos (2 ^ 31))) z) (int_le z (pos (2 ^ 31 - 1))) h)
decoded_back big I64 z h = signed_8 big z (first (int_le (neg_ℤ (pos (2 ^ 63))) z) (int_le z (pos (2 ^ 63 - 1))) h) (second (int_le (neg_ℤ (pos (2 ^ 63))) z) (int_le z (pos (2 ^ 63 - 1))) h)
decoded_back big U8 z h = unsigned_1 big z (first (int_le (pos 0) z) (int_le z (pos (2 ^ 8 - 1))) h) (second (int_le (pos 0) z) (int_le z (pos (2 ^ 8 - 1))) h)
decoded_back big U16 z h = unsigned_2 big z (first (int_le (pos 0) z) (int_le z (pos (2 ^ 16 - 1))) h) (second (int_le (pos 0) z) (int_le z (pos (2 ^ 16 - 1))) h)
decoded_back big U32 z h = unsigned_4 big z (first (int_le (pos 0) z) (int_le z (pos (2 ^ 32 - 1))) h) (second (int_le (pos 0) z) (int_le z (pos (2 ^ 32 - 1))) h)
decoded_back big U64 z h = unsigned_8 big z (first (int_le (pos 0) z) (int_le z (pos (2 ^ 64 - 1))) h) (second (int_le (pos 0) z) (int_le z (pos (2 ^ 64 - 1))) h)

pub read_back : NumbersAreReadBack
read_back big shape memory at z fits h =
    let size : length (encoded big (size_in shape) z) ≡ size_in shape = encoded_length big (size_in shape) z in
    let stays : PartsStay memory at (encoded big (size_in shape) z) = parts_stay memory at (encoded big (size_in shape) z) (omega (arith, size, fits)) in
    ap (λ (k : ℕ). decoded big (has_sign_in shape) (part (spliced memory at (encoded big (size_in shape) z)) at k)) (sym size)
    ∙ ap (λ (bytes : List ℕ). decoded big (has_sign_in shape) bytes) stays.same ∙ decoded_back big shape z h
