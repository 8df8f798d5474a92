-- No token could go on further.
use Rattle.std.proofs.Common.{◌≡◌, ℕ, zero, suc, ◌+◌, ◌-◌, ◌≤◌, ◌==◌, nat_eq, nat_lt, nat_le, ◌&&◌, ◌||◌, not, ◌⊎◌, inl, inr, Bool, true, false, if◌then◌else◌, cond, List, [], ◌∷◌, length, take, drop, slice_get, get_or, Option, Some, None, unwrap_or, refl, sym, ap, ◌∙◌, subst, arith, drop-drop}
use Rattle.std.specs.List.{starts_with, prefix_len, list_all, find}
use Rattle.std.proofs.lemmas.Slice.Eq.{bytes_eq-Decides}
use Rattle.std.proofs.lemmas.List.{length-take-le, take-append-drop}
use Rattle.std.proofs.lemmas.List.Folds.{length-prefix_len, list_all-append}
use Rattle.porch_tree.specs.declared.word.Keyword.{Keyword}
use Rattle.porch_tree.specs.declared.word.Keyword.TheVariants as key
use Rattle.porch_tree.specs.declared.word.Mark.{Mark}
use Rattle.porch_tree.specs.declared.word.Mark.TheVariants as mark
use Rattle.porch_tree.specs.Words.{keyword_bytes, mark_bytes}
use Rattle.porch_lex.specs.declared.refusal.Rule.TheVariants as rule
use Rattle.porch_lex.specs.declared.token.TokenKind.TheVariants as kind
use Rattle.porch_lex.specs.declared.token.Token.{Token}
use Rattle.porch_lex.specs.declared.lexeme.Lexeme.{Lexeme}
use Rattle.porch_lex.specs.declared.lexeme.Lexeme.TheVariants as lexeme
use Rattle.porch_lex.specs.Characters.{is_between, is_space, is_letter, is_digit, is_word, is_digit_of}
use Rattle.porch_lex.specs.Constants.{is_x, is_u, is_l, constant_base, constant_body, constant_suffix, digit_count, is_suffix, is_constant, is_wide}
use Rattle.porch_lex.specs.Literals.{character_constant_length, string_length}
use Rattle.porch_lex.specs.Gaps.{comment_length, line_length, is_include}
use Rattle.porch_lex.specs.Lexemes.{literal_lexeme, comment_lexeme, directive_lexeme, longest_first, mark_lexeme, lexeme_from, lexeme_at}
use Rattle.porch_lex.specs.Tokens.{Lexes, done, gap, token, IsTokens}
use Rattle.porch_lex.specs.Spelling.{is_name, IsLongest, AreLongest}
use Rattle.porch_lex.proofs.Tests.{code_same, both_true}
use Rattle.porch_lex.proofs.Stable.{some_same, constant_stable, string_stable}
use Rattle.porch_lex.proofs.Spelled.{prefix_passes}

-- Tests.

true_both : (a b : Bool) → a ≡ true → b ≡ true → (a && b) ≡ true
true_both true b h k = k
true_both false b h k = cc

no_both : (b : Bool) → b ≡ true → b ≡ false → ⊥
no_both b h k = let no = sym h ∙ k in cc

digit_no_letter : (c : ℕ) → is_letter c ≡ true → is_digit c ≡ true → ⊥
digit_no_letter c h k = grind (arith, h, k)

letter_word : (c : ℕ) → is_letter c ≡ true → is_word c ≡ true
letter_word c h = ap (λ (b : Bool). b || is_digit c) h

or_true : (a b : Bool) → b ≡ true → (a || b) ≡ true
or_true true b h = refl
or_true false b h = h

digit_word : (c : ℕ) → is_digit c ≡ true → is_word c ≡ true
digit_word c h = or_true (is_letter c) (is_digit c) h

one_of : (a b : Bool) → (a || b) ≡ true → (a ≡ true) ⊎ (b ≡ true)
one_of true b h = inl refl
one_of false b h = inr h

-- Constants are words.

low_letter : (c : ℕ) → is_between 97 102 c ≡ true → is_letter c ≡ true
low_letter c h = grind (arith, h)

high_letter : (c : ℕ) → is_between 65 70 c ≡ true → is_letter c ≡ true
high_letter c h = grind (arith, h)

digit_in_word : (c base : ℕ) → base ≤ 16 → is_digit_of base c ≡ true → is_word c ≡ true
digit_in_word c base l h = at_digit (is_digit c) refl h
  where
    at_none : nat_lt 16 base ≡ true → is_word c ≡ true
    at_none e = absurd (grind (arith, l, e))

    at_high : (b : Bool) → is_between 65 70 c ≡ b → nat_lt (if b then c - 55 else 16) base ≡ true → is_word c ≡ true
    at_high true e g = letter_word c (high_letter c e)
    at_high false e g = at_none g

    at_low : (b : Bool) → is_between 97 102 c ≡ b → nat_lt (if b then c - 87 else if is_between 65 70 c then c - 55 else 16) base ≡ true → is_word c ≡ true
    at_low true e g = letter_word c (low_letter c e)
    at_low false e g = at_high (is_between 65 70 c) refl g

    at_digit : (b : Bool) → is_digit c ≡ b → nat_lt (if b then c - 48 else if is_between 97 102 c then c - 87 else if is_between 65 70 c then c - 55 else 16) base ≡ true → is_word c ≡ true
    at_digit true e g = digit_word c e
    at_digit false e g = at_low (is_between 97 102 c) refl g

u_word : (c : ℕ) → is_u c ≡ true → is_word c ≡ true
u_word c h = grind (arith, h)

l_word : (c : ℕ) → is_l c ≡ true → is_word c ≡ true
l_word c h = grind (arith, h)

x_word : (c : ℕ) → is_x c ≡ true → is_word c ≡ true
x_word c h = grind (arith, h)

zero_word : (c : ℕ) → (c == 48) ≡ true → is_word c ≡ true
zero_word c h = subst (λ (x : ℕ). is_word x ≡ true) (sym (code_same c 48 h)) refl

ul_words : (a b : ℕ) → (is_u a && is_l b || is_l a && is_u b) ≡ true → (is_word a ≡ true) × (is_word b ≡ true)
ul_words a b h =
    elim (one_of (is_u a && is_l b) (is_l a && is_u b) h) [
      | inl e ↦ (let p = both_true (is_u a) (is_l b) e in (u_word a p.0, l_word b p.1))
      | inr e ↦ (let p = both_true (is_l a) (is_u b) e in (l_word a p.0, u_word b p.1))
    ]

suffix_words : (cs : List ℕ) → is_suffix cs ≡ true → list_all is_word cs ≡ true
suffix_words [] h = refl
suffix_words (a ∷ []) h =
    true_both (is_word a) true (elim (one_of (is_u a) (is_l a) h) [ inl e ↦ u_word a e | inr e ↦ l_word a e ]) refl
suffix_words (a ∷ b ∷ []) h =
    let p = ul_words a b h in true_both (is_word a) (is_word b && true) p.0 (true_both (is_word b) true p.1 refl)
suffix_words (a ∷ b ∷ c ∷ cs) h = cc

all_more : (p q : ℕ → Bool) → ((c : ℕ) → p c ≡ true → q c ≡ true) → (cs : List ℕ) → list_all p cs ≡ true → list_all q cs ≡ true
all_more p q f [] h = refl
all_more p q f (c ∷ cs) h =
    let e = both_true (p c) (list_all p cs) h in true_both (q c) (list_all q cs) (f c e.0) (all_more p q f cs e.1)

body_words : (base : ℕ) (body : List ℕ) → base ≤ 16 → is_suffix (drop (digit_count base body) body) ≡ true → list_all is_word body ≡ true
body_words base body l h =
    ap (list_all is_word) (sym (take-append-drop (digit_count base body) body))
    ∙ list_all-append is_word (take (digit_count base body) body) (drop (digit_count base body) body)
    ∙ true_both (list_all is_word (take (digit_count base body) body)) _
    (all_more (is_digit_of base) is_word (λ c e. digit_in_word c base l e) (take (digit_count base body) body) (prefix_passes (is_digit_of base) body))
    (suffix_words (drop (digit_count base body) body) h)

small_base : (cs : List ℕ) → constant_base cs ≤ 16
small_base [] = omega arith
small_base (a ∷ []) = small_at (a == 48)
  where
    small_at : (b : Bool) → (if b then 8 else 10) ≤ 16
    small_at true = omega arith
    small_at false = omega arith
small_base (a ∷ b ∷ cs) = small_at (a == 48) (is_x b)
  where
    small_at : (s t : Bool) → (if s then (if t then 16 else 8) else 10) ≤ 16
    small_at true true = omega arith
    small_at true false = omega arith
    small_at false t = omega arith

whole_words : (cs : List ℕ) → list_all is_word (constant_body cs) ≡ true → list_all is_word cs ≡ true
whole_words [] h = refl
whole_words (a ∷ []) h = whole_at (a == 48) h
  where
    whole_at : (b : Bool) → list_all is_word (if (if b then 8 else 10) == 16 then drop 2 (a ∷ []) else a ∷ []) ≡ true → list_all is_word (a ∷ []) ≡ true
    whole_at true g = g
    whole_at false g = g
whole_words (a ∷ b ∷ cs) h = whole_at (a == 48) (is_x b) refl refl h
  where
    whole_at : (s t : Bool) → (a == 48) ≡ s → is_x b ≡ t
        → list_all is_word (if (if s then (if t then 16 else 8) else 10) == 16 then drop 2 (a ∷ b ∷ cs) else a ∷ b ∷ cs) ≡ true → list_all is_word (a ∷ b ∷ cs) ≡ true
    whole_at true true e f g =
        true_both (is_word a) (is_word b && list_all is_word cs) (zero_word a e) (true_both (is_word b) (list_all is_word cs) (x_word b f) g)
    whole_at true false e f g = g
    whole_at false t e f g = g

constant_words : (cs : List ℕ) → is_constant cs ≡ true → list_all is_word cs ≡ true
constant_words cs h =
    let p = both_true (nat_lt 0 (digit_count (constant_base cs) (constant_body cs))) (is_suffix (constant_suffix cs)) h in
    whole_words cs (body_words (constant_base cs) (constant_body cs) (small_base cs) p.1)

-- Keywords are names, and no mark begins as another token does.

keyword_name : (k : Keyword) → is_name (keyword_bytes k) ≡ true
keyword_name key.Auto = refl
keyword_name key.Break = refl
keyword_name key.Case = refl
keyword_name key.Char = refl
keyword_name key.Const = refl
keyword_name key.Continue = refl
keyword_name key.Default = refl
keyword_name key.Do = refl
keyword_name key.Double = refl
keyword_name key.Else = refl
keyword_name key.Enum = refl
keyword_name key.Extern = refl
keyword_name key.Float = refl
keyword_name key.For = refl
keyword_name key.Goto = refl
keyword_name key.If = refl
keyword_name key.Int = refl
keyword_name key.Long = refl
keyword_name key.Register = refl
keyword_name key.Return = refl
keyword_name key.Short = refl
keyword_name key.Signed = refl
keyword_name key.Sizeof = refl
keyword_name key.Static = refl
keyword_name key.Struct = refl
keyword_name key.Switch = refl
keyword_name key.Typedef = refl
keyword_name key.Union = refl
keyword_name key.Unsigned = refl
keyword_name key.Void = refl
keyword_name key.Volatile = refl
keyword_name key.While = refl

abbrev is_mark_byte : ℕ → Bool
is_mark_byte c = not (is_space c) && (not (is_letter c) && (not (is_digit c) && (not (c == 39) && not (c == 34))))

mark_byte : (m : Mark) → is_mark_byte (get_or (mark_bytes m) 0 0) ≡ true
mark_byte mark.OpenBracket = refl
mark_byte mark.CloseBracket = refl
mark_byte mark.OpenParenthesis = refl
mark_byte mark.CloseParenthesis = refl
mark_byte mark.OpenBrace = refl
mark_byte mark.CloseBrace = refl
mark_byte mark.Dot = refl
mark_byte mark.Arrow = refl
mark_byte mark.PlusPlus = refl
mark_byte mark.MinusMinus = refl
mark_byte mark.And = refl
mark_byte mark.Star = refl
mark_byte mark.Plus = refl
mark_byte mark.Minus = refl
mark_byte mark.Tilde = refl
mark_byte mark.Not = refl
mark_byte mark.Slash = refl
mark_byte mark.Percent = refl
mark_byte mark.ShiftLeft = refl
mark_byte mark.ShiftRight = refl
mark_byte mark.Less = refl
mark_byte mark.Greater = refl
mark_byte mark.LessEqual = refl
mark_byte mark.GreaterEqual = refl
mark_byte mark.EqualEqual = refl
mark_byte mark.NotEqual = refl
mark_byte mark.Caret = refl
mark_byte mark.Or = refl
mark_byte mark.AndAnd = refl
mark_byte mark.OrOr = refl
mark_byte mark.Question = refl
mark_byte mark.Colon = refl
mark_byte mark.Semicolon = refl
mark_byte mark.Equal = refl
mark_byte mark.StarEqual = refl
mark_byte mark.SlashEqual = refl
mark_byte mark.PercentEqual = refl
mark_byte mark.PlusEqual = refl
mark_byte mark.MinusEqual = refl
mark_byte mark.ShiftLeftEqual = refl
mark_byte mark.ShiftRightEqual = refl
mark_byte mark.AndEqual = refl
mark_byte mark.CaretEqual = refl
mark_byte mark.OrEqual = refl
mark_byte mark.Comma = refl

mark_place : (m : Mark) → (i : ℕ) × (slice_get longest_first i ≡ Some m)
mark_place mark.OpenBracket = (21, refl)
mark_place mark.CloseBracket = (22, refl)
mark_place mark.OpenParenthesis = (23, refl)
mark_place mark.CloseParenthesis = (24, refl)
mark_place mark.OpenBrace = (25, refl)
mark_place mark.CloseBrace = (26, refl)
mark_place mark.Dot = (27, refl)
mark_place mark.Arrow = (2, refl)
mark_place mark.PlusPlus = (3, refl)
mark_place mark.MinusMinus = (4, refl)
mark_place mark.And = (28, refl)
mark_place mark.Star = (29, refl)
mark_place mark.Plus = (30, refl)
mark_place mark.Minus = (31, refl)
mark_place mark.Tilde = (32, refl)
mark_place mark.Not = (33, refl)
mark_place mark.Slash = (34, refl)
mark_place mark.Percent = (35, refl)
mark_place mark.ShiftLeft = (5, refl)
mark_place mark.ShiftRight = (6, refl)
mark_place mark.Less = (36, refl)
mark_place mark.Greater = (37, refl)
mark_place mark.LessEqual = (7, refl)
mark_place mark.GreaterEqual = (8, refl)
mark_place mark.EqualEqual = (9, refl)
mark_place mark.NotEqual = (10, refl)
mark_place mark.Caret = (38, refl)
mark_place mark.Or = (39, refl)
mark_place mark.AndAnd = (11, refl)
mark_place mark.OrOr = (12, refl)
mark_place mark.Question = (40, refl)
mark_place mark.Colon = (41, refl)
mark_place mark.Semicolon = (42, refl)
mark_place mark.Equal = (43, refl)
mark_place mark.StarEqual = (13, refl)
mark_place mark.SlashEqual = (14, refl)
mark_place mark.PercentEqual = (15, refl)
mark_place mark.PlusEqual = (16, refl)
mark_place mark.MinusEqual = (17, refl)
mark_place mark.ShiftLeftEqual = (0, refl)
mark_place mark.ShiftRightEqual = (1, refl)
mark_place mark.AndEqual = (18, refl)
mark_place mark.CaretEqual = (19, refl)
mark_place mark.OrEqual = (20, refl)
mark_place mark.Comma = (44, refl)

-- what a mark's first byte isn't
no_letter : (c : ℕ) (xs : List ℕ) (m : Mark) → c ∷ xs ≡ mark_bytes m → is_letter c ≡ true → ⊥
no_letter c xs m e h =
    let is : is_mark_byte c ≡ true = ap (λ (ys : List ℕ). is_mark_byte (get_or ys 0 0)) e ∙ mark_byte m in
    grind (arith, is, h)

no_digit : (c : ℕ) (xs : List ℕ) (m : Mark) → c ∷ xs ≡ mark_bytes m → is_digit c ≡ true → ⊥
no_digit c xs m e h =
    let is : is_mark_byte c ≡ true = ap (λ (ys : List ℕ). is_mark_byte (get_or ys 0 0)) e ∙ mark_byte m in
    grind (arith, is, h)

no_single : (c : ℕ) (xs : List ℕ) (m : Mark) → c ∷ xs ≡ mark_bytes m → c ≡ 39 → ⊥
no_single c xs m e h =
    let is : is_mark_byte c ≡ true = ap (λ (ys : List ℕ). is_mark_byte (get_or ys 0 0)) e ∙ mark_byte m in
    let no : is_mark_byte 39 ≡ true = subst (λ (x : ℕ). is_mark_byte x ≡ true) h is in
    cc

no_double : (c : ℕ) (xs : List ℕ) (m : Mark) → c ∷ xs ≡ mark_bytes m → c ≡ 34 → ⊥
no_double c xs m e h =
    let is : is_mark_byte c ≡ true = ap (λ (ys : List ℕ). is_mark_byte (get_or ys 0 0)) e ∙ mark_byte m in
    let no : is_mark_byte 34 ≡ true = subst (λ (x : ℕ). is_mark_byte x ≡ true) h is in
    cc

-- The first mark that passes is the longest.

abbrev size_of : Mark → ℕ
size_of m = length (mark_bytes m)

abbrev is_descending : List Mark → Bool
is_descending [] = true
is_descending (m ∷ ms) = list_all (λ j. nat_le (size_of j) (size_of m)) ms && is_descending ms

all_at : (p : Mark → Bool) (ms : List Mark) (i : ℕ) (k : Mark) → list_all p ms ≡ true → slice_get ms i ≡ Some k → p k ≡ true
all_at p [] i k h e = cc
all_at p (m ∷ ms) zero k h e =
    subst (λ (x : Mark). p x ≡ true) (ap (λ o. unwrap_or o m) e) (both_true (p m) (list_all p ms) h).0
all_at p (m ∷ ms) (suc i) k h e = all_at p ms i k (both_true (p m) (list_all p ms) h).1 e

at_most : (a b : ℕ) → nat_le a b ≡ true → a ≤ b
at_most a b h = search (arith, h)

first_longest : (p : Mark → Bool) (ms : List Mark) (i : ℕ) (k m : Mark) → is_descending ms ≡ true → slice_get ms i ≡ Some k → p k ≡ true → find p ms ≡ Some m → size_of k ≤ size_of m
first_longest p [] i k m d e t f = cc
first_longest p (j ∷ js) i k m d e t f = longest_at (p j) i refl e f (λ i g h. first_longest p js i k m (both_true _ (is_descending js) d).1 g t h)
  where
    same_longest : (n : Mark) → n ≡ k → size_of k ≤ size_of n
    same_longest n q = subst (λ (x : Mark). size_of x ≤ size_of n) q (omega arith)

    longest_at : (b : Bool) (i : ℕ) → p j ≡ b → slice_get (j ∷ js) i ≡ Some k → cond b (Some j) (find p js) ≡ Some m
        → ((i : ℕ) → slice_get js i ≡ Some k → find p js ≡ Some m → size_of k ≤ size_of m) → size_of k ≤ size_of m
    longest_at true zero q e f go = subst (λ (x : Mark). size_of k ≤ size_of x) (ap (λ o. unwrap_or o j) f) (same_longest j (ap (λ o. unwrap_or o j) e))
    longest_at true (suc i) q e f go =
        subst (λ (x : Mark). size_of k ≤ size_of x) (ap (λ o. unwrap_or o j) f)
        (at_most (size_of k) (size_of j) (all_at (λ (x : Mark). nat_le (size_of x) (size_of j)) js i k (both_true (list_all (λ x. nat_le (size_of x) (size_of j)) js) (is_descending js) d).0 e))
    longest_at false zero q e f go =
        absurd (no_both (p j) (subst (λ (x : Mark). p x ≡ true) (sym (ap (λ o. unwrap_or o j) e)) t) q)
    longest_at false (suc i) q e f go = go i e f

-- At one place.

all_within : (p : ℕ → Bool) (cs : List ℕ) (m : ℕ) → m ≤ length cs → list_all p (take m cs) ≡ true → m ≤ prefix_len p cs
all_within p cs zero l h = omega arith
all_within p [] (suc m) l h = absurd (omega (arith, l))
all_within p (c ∷ cs) (suc m) l h =
    let e = both_true (p c) (list_all p (take m cs)) h in
    let more = all_within p cs m (omega (arith, l)) e.1 in
    within_at (p c) m (prefix_len p cs) e.0 more
  where
    within_at : (b : Bool) (m n : ℕ) → b ≡ true → m ≤ n → suc m ≤ cond b (1 + n) 0
    within_at true m n e h = omega (arith, h)
    within_at false m n e h = cc

by_kind : (c : ℕ) (cs : List ℕ) (n : ℕ)
    → ((m : ℕ) → m ≤ length cs → is_letter c ≡ true → list_all is_word (take m cs) ≡ true → suc m ≤ n)
    → ((m : ℕ) → m ≤ length cs → is_digit c ≡ true → list_all is_word (take m cs) ≡ true → suc m ≤ n)
    → ((m : ℕ) → c ≡ 39 → character_constant_length (take m cs) ≡ Some m → suc m ≤ n)
    → ((m : ℕ) → c ≡ 34 → string_length (take m cs) ≡ Some m → suc m ≤ n)
    → ((m : ℕ) (k : Mark) → m ≤ length cs → c ∷ take m cs ≡ mark_bytes k → suc m ≤ n)
    → IsLongest (c ∷ cs) n
by_kind c cs n w d q t x k zero l s = omega arith
by_kind c cs n w d q t x kind.Name (suc m) l s =
    let e = both_true (is_letter c) (list_all is_word (take m cs)) s.0 in w m (omega (arith, l)) e.0 e.1
by_kind c cs n w d q t x (kind.Keyword k) (suc m) l s =
    let e = both_true (is_letter c) (list_all is_word (take m cs)) (ap is_name s ∙ keyword_name k) in w m (omega (arith, l)) e.0 e.1
by_kind c cs n w d q t x kind.Whole (suc m) l s =
    let e = both_true (is_word c) (list_all is_word (take m cs)) (constant_words (c ∷ take m cs) s.1) in d m (omega (arith, l)) s.0 e.1
by_kind c cs n w d q t x kind.Character (suc m) l s = q m s.0 (s.1 ∙ ap Some (length-take-le m cs (omega (arith, l))))
by_kind c cs n w d q t x kind.Text (suc m) l s = t m s.0 (s.1 ∙ ap Some (length-take-le m cs (omega (arith, l))))
by_kind c cs n w d q t x (kind.Mark k) (suc m) l s = x m k (omega (arith, l)) s

abbrev LongestIn : Lexeme → List ℕ → Type 0
LongestIn (lexeme.Token k n) text = IsLongest text n
LongestIn l text = Unit {0}

at_test : (b : Bool) (x y : Lexeme) (text : List ℕ) → (b ≡ true → LongestIn x text) → (b ≡ false → LongestIn y text) → LongestIn (if b then x else y) text
at_test true x y text f g = f refl
at_test false x y text f g = g refl

-- a word, or a constant: it goes as far as its bytes are of words
run_longest : (c : ℕ) (cs : List ℕ) (m : ℕ) → m ≤ length cs → list_all is_word (take m cs) ≡ true → suc m ≤ length (c ∷ take (prefix_len is_word cs) cs)
run_longest c cs m l h =
    let within = all_within is_word cs m l h in
    let long = length-prefix_len is_word cs in
    omega (arith, within, long)

no_letter_quote : (c : ℕ) → is_letter c ≡ true → (c ≡ 39 → ⊥) × (c ≡ 34 → ⊥)
no_letter_quote c h =
    (λ e. let no : is_letter 39 ≡ true = subst (λ (x : ℕ). is_letter x ≡ true) e h in cc, λ e. let no : is_letter 34 ≡ true = subst (λ (x : ℕ). is_letter x ≡ true) e h in cc)

no_digit_quote : (c : ℕ) → is_digit c ≡ true → (c ≡ 39 → ⊥) × (c ≡ 34 → ⊥)
no_digit_quote c h =
    (λ e. let no : is_digit 39 ≡ true = subst (λ (x : ℕ). is_digit x ≡ true) e h in cc, λ e. let no : is_digit 34 ≡ true = subst (λ (x : ℕ). is_digit x ≡ true) e h in cc)

word_longest : (c : ℕ) (cs : List ℕ) → is_letter c ≡ true → IsLongest (c ∷ cs) (length (c ∷ take (prefix_len is_word cs) cs))
word_longest c cs h =
    by_kind c cs (length (c ∷ take (prefix_len is_word cs) cs))
    (λ m l e a. run_longest c cs m l a)
    (λ m l e a. run_longest c cs m l a)
    (λ m e a. absurd ((no_letter_quote c h).0 e))
    (λ m e a. absurd ((no_letter_quote c h).1 e))
    (λ m k l e. absurd (no_letter c (take m cs) k e h))

constant_longest : (c : ℕ) (cs : List ℕ) → is_digit c ≡ true → IsLongest (c ∷ cs) (length (c ∷ take (prefix_len is_word cs) cs))
constant_longest c cs h =
    by_kind c cs (length (c ∷ take (prefix_len is_word cs) cs))
    (λ m l e a. run_longest c cs m l a)
    (λ m l e a. run_longest c cs m l a)
    (λ m e a. absurd ((no_digit_quote c h).0 e))
    (λ m e a. absurd ((no_digit_quote c h).1 e))
    (λ m k l e. absurd (no_digit c (take m cs) k e h))

-- what reaches to its own end is no longer than what is found
by_order : (m n : ℕ) → (n ≤ m → m ≡ n) → suc m ≤ n + 1
by_order m n f = order_at (nat_le n m) refl
  where
    order_at : (b : Bool) → nat_le n m ≡ b → suc m ≤ n + 1
    order_at true e = let same = f (at_most n m e) in omega (arith, same)
    order_at false e = grind (arith, e)

character_longest : (c : ℕ) (cs : List ℕ) (o : Option ℕ) → c ≡ 39 → character_constant_length cs ≡ o → LongestIn (literal_lexeme kind.Character o) (c ∷ cs)
character_longest c cs None h e = tt
character_longest c cs (Some n) h e =
    by_kind c cs (n + 1)
    (λ m l a b. absurd ((no_letter_quote c a).0 h))
    (λ m l a b. absurd ((no_digit_quote c a).0 h))
    (λ m q a. by_order m n (λ l. some_same m n (sym a ∙ constant_stable cs n m e l)))
    (λ m q a. let no : 39 ≡ 34 = sym h ∙ q in absurd (omega (arith, no)))
    (λ m k l a. absurd (no_single c (take m cs) k a h))

string_longest : (c : ℕ) (cs : List ℕ) (o : Option ℕ) → c ≡ 34 → string_length cs ≡ o → LongestIn (literal_lexeme kind.Text o) (c ∷ cs)
string_longest c cs None h e = tt
string_longest c cs (Some n) h e =
    by_kind c cs (n + 1)
    (λ m l a b. absurd ((no_letter_quote c a).1 h))
    (λ m l a b. absurd ((no_digit_quote c a).1 h))
    (λ m q a. let no : 34 ≡ 39 = sym h ∙ q in absurd (omega (arith, no)))
    (λ m q a. by_order m n (λ l. some_same m n (sym a ∙ string_stable cs n m e l)))
    (λ m k l a. absurd (no_double c (take m cs) k a h))

mark_longest : (c : ℕ) (cs : List ℕ) (o : Option Mark) → is_letter c ≡ false → is_digit c ≡ false → (c == 39) ≡ false → (c == 34) ≡ false
    → find (λ m. starts_with nat_eq (c ∷ cs) (mark_bytes m)) longest_first ≡ o → LongestIn (mark_lexeme o) (c ∷ cs)
mark_longest c cs None nl nd ns nt e = tt
mark_longest c cs (Some j) nl nd ns nt e =
    by_kind c cs (length (mark_bytes j))
    (λ m l a b. absurd (no_both (is_letter c) a nl))
    (λ m l a b. absurd (no_both (is_digit c) a nd))
    (λ m q a. absurd (no_both (c == 39) (subst (λ (x : ℕ). (x == 39) ≡ true) (sym q) refl) ns))
    (λ m q a. absurd (no_both (c == 34) (subst (λ (x : ℕ). (x == 34) ≡ true) (sym q) refl) nt))
    (λ m k l a.
    let place = mark_place k in
    let long : length (mark_bytes k) ≡ suc m = ap length (sym a) ∙ ap suc (length-take-le m cs l) in
    let front : take (length (mark_bytes k)) (c ∷ cs) ≡ mark_bytes k = ap (λ (x : ℕ). take x (c ∷ cs)) long ∙ a in
    let passes : starts_with nat_eq (c ∷ cs) (mark_bytes k) ≡ true = (bytes_eq-Decides (mark_bytes k) (take (length (mark_bytes k)) (c ∷ cs))).1 (sym front) in
    let most = first_longest (λ (x : Mark). starts_with nat_eq (c ∷ cs) (mark_bytes x)) longest_first place.0 k j refl place.1 passes e in
    omega (arith, long, most))

comment_none : (o : Option ℕ) (text : List ℕ) → LongestIn (comment_lexeme o) text
comment_none None text = tt
comment_none (Some n) text = tt

some_longest : (fresh : Bool) (c : ℕ) (cs : List ℕ) → LongestIn (lexeme_from fresh c cs) (c ∷ cs)
some_longest fresh c cs =
    at_test (is_space c) _ _ (c ∷ cs) (λ _. tt) (λ _.
    at_test (is_letter c) _ _ (c ∷ cs) (word_longest c cs) (λ nl.
    at_test (is_digit c) _ _ (c ∷ cs)
    (λ d.
    at_test (starts_with nat_eq (drop (prefix_len is_word cs) cs) (46 ∷ []) || not (is_constant (c ∷ take (prefix_len is_word cs) cs))) (lexeme.Fault rule.Word) _ (c ∷ cs) (λ _. tt) (λ _.
    at_test (is_wide (c ∷ take (prefix_len is_word cs) cs)) (lexeme.Fault rule.WideConstant) (lexeme.Token kind.Whole (length (c ∷ take (prefix_len is_word cs) cs))) (c ∷ cs) (λ _. tt) (λ _.
    constant_longest c cs d)))
    (λ nd.
    at_test (c == 39) _ _ (c ∷ cs) (λ q. character_longest c cs (character_constant_length cs) (code_same c 39 q) refl) (λ ns.
    at_test (c == 34) _ _ (c ∷ cs) (λ q. string_longest c cs (string_length cs) (code_same c 34 q) refl) (λ nt.
    at_test (c == 47 && starts_with nat_eq cs (42 ∷ [])) _ _ (c ∷ cs) (λ _. comment_none (comment_length (drop 1 cs)) (c ∷ cs)) (λ _.
    at_test (c == 35 && fresh) (directive_lexeme cs) _ (c ∷ cs)
    (λ _. at_test (is_include (take (line_length cs) cs)) _ (lexeme.Fault rule.Outside) (c ∷ cs) (λ _. tt) (λ _. tt)) (λ _.
    mark_longest c cs _ nl nd ns nt refl)))))))

lexeme_longest : (fresh : Bool) (text : List ℕ) → LongestIn (lexeme_at fresh text) text
lexeme_longest fresh [] = tt
lexeme_longest fresh (c ∷ cs) = some_longest fresh c cs

longest_from : (text : List ℕ) {fresh : Bool} {at : ℕ} {rest : List ℕ} {ts : List Token} → Lexes fresh at rest ts → rest ≡ drop at text → AreLongest text ts
longest_from text (done e) here = tt
longest_from text {fresh} {at} (gap n next e more) here = longest_from text more (ap (drop n) here ∙ drop-drop n at text)
longest_from text {fresh} {at} {rest} (token kind n e more) here =
    let size : n ≡ at + n - at = omega arith in (
      subst (λ (x : ℕ). IsLongest (drop at text) x) size
          (subst (λ (x : List ℕ). IsLongest x n) here (subst (λ (l : Lexeme). LongestIn l rest) e (lexeme_longest fresh rest))),
      longest_from text more (ap (drop n) here ∙ drop-drop n at text),
    )

pub tokens_are_longest : (text : List ℕ) (ts : List Token) → IsTokens text ts → AreLongest text ts
tokens_are_longest text ts h = longest_from text h.1 refl
