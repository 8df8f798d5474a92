-- The words of a kind: none stands outside a base, and not all are `const`.
use Rattle.std.proofs.Common.{◌≡◌, ℕ, zero, suc, ◌+◌, Bool, true, false, ◌&&◌, List, [], ◌∷◌, ◌++◌, if◌then◌else◌, count_by, refl, sym, ap, ◌∙◌, arith}
use Rattle.std.specs.Prelude.{⊤}
use Rattle.std.specs.List.{list_all}
use Rattle.std.proofs.lemmas.List.Sums.{sum_by-cons}
use Rattle.porch_tree.specs.declared.word.Keyword.{Keyword}
use Rattle.porch_tree.specs.declared.word.Keyword.TheVariants as key
use Rattle.porch_tree.specs.Pieces.{Spelled}
use Rattle.porch_tree.specs.Formed.{is_kind, is_kind_of, is_kind_word, is_char, is_short, is_int, is_long, is_signed, is_unsigned}
use Rattle.porch_parts.specs.Signs.{key_sign}
use Rattle.porch_parts.specs.Types.{Part, place, behind_words, words_step, at_base, type_step}

abbrev pub is_const : Keyword → Bool
is_const key.Const = true
is_const k = false

-- whether no other word stands among these, and stood before them
abbrev pub only_behind : Bool → List Keyword → Bool
only_behind b [] = b
only_behind b (k ∷ ks) = only_behind (is_const k && b) ks

abbrev pub AreKindWords : List Keyword → Type 0
AreKindWords [] = ⊤
AreKindWords (k ∷ ks) = (is_kind_word k ≡ true) × AreKindWords ks

never : false ≡ true → ⊥
never h = cc

pub both : (a b : Bool) → a && b ≡ true → (a ≡ true) × (b ≡ true)
both true b h = (refl, h)
both false b h = absurd (never h)

pub decided : (b : Bool) → (b ≡ true → ⊥) → b ≡ false
decided true h = absurd (h refl)
decided false h = refl

all_words : (ks : List Keyword) → list_all is_kind_word ks ≡ true → AreKindWords ks
all_words [] h = tt
all_words (k ∷ ks) h = let p = both (is_kind_word k) (list_all is_kind_word ks) h in (p.0, all_words ks p.1)

before_true : (b : Bool) (ks : List Keyword) → only_behind b ks ≡ true → b ≡ true
before_true b [] h = h
before_true b (k ∷ ks) h = (both (is_const k) b (before_true (is_const k && b) ks h)).1

const_first : (b : Bool) (k : Keyword) (ks : List Keyword) → only_behind b (k ∷ ks) ≡ true → is_const k ≡ true
const_first b k ks h = (both (is_const k) b (before_true (is_const k && b) ks h)).0

test_const : (test : Keyword → Bool) (k : Keyword) → test key.Const ≡ false → is_const k ≡ true → test k ≡ false
test_const test key.Const h c = h
test_const test k h c = absurd (never c)

nothing_more : (n : ℕ) → n ≡ 0 → (if false then 1 else 0) + n ≡ 0
nothing_more n h = omega (arith, h)

none_counted : (test : Keyword → Bool) (b : Bool) (ks : List Keyword) → test key.Const ≡ false → only_behind b ks ≡ true → count_by test ks ≡ 0
none_counted test b [] h o = refl
none_counted test b (k ∷ ks) h o =
    sum_by-cons (λ x. if test x then 1 else 0) k ks
    ∙ ap (λ c. (if c then 1 else 0) + count_by test ks) (test_const test k h (const_first b k ks o))
    ∙ nothing_more (count_by test ks) (none_counted test (is_const k && b) ks h o)

kind_counts : (ks : List Keyword) → only_behind true ks ≡ true
    → is_kind_of (count_by is_char ks) (count_by is_short ks) (count_by is_int ks) (count_by is_long ks) (count_by is_signed ks) (count_by is_unsigned ks) ≡ false
kind_counts ks h =
    let a = none_counted is_char true ks refl h in
    let b = none_counted is_short true ks refl h in
    let c = none_counted is_int true ks refl h in
    let d = none_counted is_long true ks refl h in
    let e = none_counted is_signed true ks refl h in
    let f = none_counted is_unsigned true ks refl h in
    rw (a, b, c, d, e, f) refl

pub kind_only : (ks : List Keyword) → is_kind ks ≡ true → only_behind true ks ≡ false
kind_only ks h =
    decided (only_behind true ks) (λ o. never (sym (kind_counts ks o) ∙ (both (list_all is_kind_word ks) (is_kind_of (count_by is_char ks) (count_by is_short ks) (count_by is_int ks) (count_by is_long ks) (count_by is_signed ks) (count_by is_unsigned ks)) h).1))

pub kind_words : (ks : List Keyword) → is_kind ks ≡ true → AreKindWords ks
kind_words ks h = all_words ks (both (list_all is_kind_word ks) (is_kind_of (count_by is_char ks) (count_by is_short ks) (count_by is_int ks) (count_by is_long ks) (count_by is_signed ks) (count_by is_unsigned ks)) h).0

pub word_step : (k : Keyword) (ps : List Part) (at : ℕ) (ks : List Keyword) (n : ℕ) (b : Bool) (t : Spelled) → is_kind_word k ≡ true
    → words_step ps at ks n b (key_sign k) t ≡ place ps (behind_words at (ks ++ k ∷ []) (suc n) (is_const k && b))
word_step key.Const ps at ks n b t h = refl
word_step key.Char ps at ks n b t h = refl
word_step key.Short ps at ks n b t h = refl
word_step key.Int ps at ks n b t h = refl
word_step key.Long ps at ks n b t h = refl
word_step key.Signed ps at ks n b t h = refl
word_step key.Unsigned ps at ks n b t h = refl
word_step k ps at ks n b t h = absurd (never h)

-- so many `const`
abbrev pub consts : ℕ → List Keyword
consts zero = []
consts (suc n) = key.Const ∷ consts n

pub first_step : (k : Keyword) (ps : List Part) (t : Spelled) → is_kind_word k ≡ true
    → type_step ps at_base (key_sign k) t ≡ place ps (behind_words t.at (k ∷ []) 1 (is_const k && true))
first_step key.Const ps t h = refl
first_step key.Char ps t h = refl
first_step key.Short ps t h = refl
first_step key.Int ps t h = refl
first_step key.Long ps t h = refl
first_step key.Signed ps t h = refl
first_step key.Unsigned ps t h = refl
first_step k ps t h = absurd (never h)
