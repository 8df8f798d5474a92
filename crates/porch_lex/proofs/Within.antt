-- What is read of a text has a byte at least, and ends within the text.
use Rattle.std.proofs.Common.{◌≡◌, ℕ, zero, suc, ◌+◌, ◌-◌, ◌<◌, ◌≤◌, ◌==◌, nat_eq, nat_lt, ◌&&◌, ◌||◌, not, Bool, true, false, if◌then◌else◌, List, [], ◌∷◌, length, take, drop, min, cond, Option, Some, None, refl, sym, subst, arith, lit<, length-drop}
use lib.Pointwise.{pointwise}
use Rattle.std.proofs.lemmas.List.{length-take-le}
use Rattle.std.specs.List.{starts_with, prefix_len, list_any, find}
use Rattle.std.specs.Option.{IfSome}
use Rattle.std.proofs.lemmas.List.Sums.{prefix_len-le-length}
use Rattle.porch_lex.specs.Characters.{is_space, is_newline, is_letter, is_digit, is_word, is_digit_of, is_printed}
use Rattle.porch_lex.specs.Constants.{is_constant, is_wide}
use Rattle.porch_lex.specs.Literals.{simple_escapes, if_byte, octal_length, hexadecimal_escape, escape_length, counted_more, character_length, constant_end, character_constant_length, string_from, string_more, string_length}
use Rattle.porch_lex.specs.Gaps.{is_comment_end, comment_length, line_length, is_include}
use Rattle.porch_lex.specs.Lexemes.{longest_first, mark_lexeme, constant_lexeme, literal_lexeme, comment_lexeme, directive_lexeme, lexeme_at, lexeme_from}
use Rattle.porch_lex.specs.declared.token.TokenKind.{TokenKind}
use Rattle.porch_lex.specs.declared.token.TokenKind.TheVariants as kind
use Rattle.porch_lex.specs.declared.refusal.Rule.TheVariants as rule
use Rattle.porch_lex.specs.declared.lexeme.Lexeme.{Lexeme}
use Rattle.porch_lex.specs.declared.lexeme.Lexeme.TheVariants as lexeme
use Rattle.porch_tree.specs.declared.word.Mark.{Mark}
use Rattle.porch_tree.specs.Words.{mark_bytes}
use Rattle.porch_lex.proofs.Tests.{both_true}
use Rattle.porch_lex.proofs.Marks.{mark_some}

abbrev pub IsWithin : Option ℕ → ℕ → Type 0
IsWithin o m = IfSome o (λ n. (0 < n) × (n ≤ m))

pub by_test : (b : Bool) (x y : Option ℕ) (m : ℕ) → (b ≡ true → IsWithin x m) → (b ≡ false → IsWithin y m) → IsWithin (if b then x else y) m
by_test true x y m f g = f refl
by_test false x y m f g = g refl

counted : (k : ℕ) (o : Option ℕ) (m m' : ℕ) → m + k ≤ m' → IsWithin o m → IsWithin (counted_more k o) m'
counted k None m m' l h = tt
counted k (Some n) m m' l h = let some = h.0 in let few = h.1 in (omega (arith, some), omega (arith, few, l))

of_byte : (v n m : ℕ) → 0 < n → n ≤ m → IsWithin (if_byte v n) m
of_byte v n m some few = by_test (nat_lt 255 v) None (Some n) m (λ _. tt) (λ _. (some, few))

pub hexadecimal_within : (cs : List ℕ) → IsWithin (hexadecimal_escape cs) (suc (length cs))
hexadecimal_within cs =
    let few : prefix_len (is_digit_of 16) cs ≤ length cs = prefix_len-le-length (is_digit_of 16) cs in
    by_test (nat_lt 0 (prefix_len (is_digit_of 16) cs)) _ None (suc (length cs))
    (λ _. of_byte _ (prefix_len (is_digit_of 16) cs + 1) (suc (length cs)) (omega arith) (omega (arith, few))) (λ _. tt)

least_three : (n : ℕ) → 0 < min 3 (1 + n)
least_three n = grind arith

octal_some : (c : ℕ) (cs : List ℕ) → is_digit_of 8 c ≡ true → 0 < octal_length (c ∷ cs)
octal_some c cs h = rw h (least_three (prefix_len (is_digit_of 8) cs))

min_within : (n m : ℕ) → n ≤ m → min 3 n ≤ m
min_within n m h = grind (arith, h)

pub octal_within : (xs : List ℕ) → octal_length xs ≤ length xs
octal_within xs = min_within (prefix_len (is_digit_of 8) xs) (length xs) (prefix_len-le-length (is_digit_of 8) xs)

pub escape_within : (xs : List ℕ) → IsWithin (escape_length xs) (length xs)
escape_within [] = tt
escape_within (c ∷ cs) =
    by_test (list_any (λ e. e == c) simple_escapes) (Some 1) _ (length (c ∷ cs)) (λ _. (lit< tt, omega arith)) (λ _.
    by_test (is_digit_of 8 c) _ _ (length (c ∷ cs))
    (λ h. of_byte _ (octal_length (c ∷ cs)) (length (c ∷ cs)) (octal_some c cs h) (octal_within (c ∷ cs))) (λ _.
    by_test (c == 120) (hexadecimal_escape cs) None (length (c ∷ cs)) (λ _. hexadecimal_within cs) (λ _. tt)))

pub character_within : (quote : ℕ) (xs : List ℕ) → IsWithin (character_length quote xs) (length xs)
character_within quote [] = tt
character_within quote (c ∷ cs) =
    by_test (c == 92) (counted_more 1 (escape_length cs)) _ (length (c ∷ cs))
    (λ _. counted 1 (escape_length cs) (length cs) (length (c ∷ cs)) (omega arith) (escape_within cs)) (λ _.
    by_test (is_printed c && not (c == quote)) (Some 1) None (length (c ∷ cs)) (λ _. (lit< tt, omega arith)) (λ _. tt))

pub begins_some : (xs : List ℕ) (c : ℕ) → starts_with nat_eq xs (c ∷ []) ≡ true → 0 < length xs
begins_some [] c h = cc
begins_some (x ∷ xs) c h = omega arith

end_within : (o : Option ℕ) (cs : List ℕ) → IsWithin o (length cs) → IsWithin (constant_end o cs) (length cs)
end_within None cs h = tt
end_within (Some n) cs h =
    by_test (starts_with nat_eq (drop n cs) (39 ∷ [])) (Some (n + 1)) None (length cs)
    (λ e.
    let some = begins_some (drop n cs) 39 e in
    let long : length (drop n cs) ≡ length cs - n = length-drop n cs in
    (omega arith, omega (arith, some, long)))
    (λ _. tt)

pub constant_within : (cs : List ℕ) → IsWithin (character_constant_length cs) (length cs)
constant_within cs = end_within (character_length 39 cs) cs (character_within 39 cs)

more_within : (o : Option ℕ) (go : ℕ → Option ℕ) (m : ℕ) → ((n : ℕ) → IsWithin (go n) m) → IsWithin (string_more o go) (suc m)
more_within None go m h = tt
more_within (Some n) go m h = counted 1 (go (n - 1)) m (suc m) (omega arith) (h (n - 1))

pub string_from_within : (cs : List ℕ) (k : ℕ) → IsWithin (string_from cs k) (length cs)
string_from_within [] zero = tt
string_from_within [] (suc k) = tt
string_from_within (c ∷ cs) (suc k) = counted 1 (string_from cs k) (length cs) (length (c ∷ cs)) (omega arith) (string_from_within cs k)
string_from_within (c ∷ cs) zero =
    by_test (c == 34) (Some 1) _ (length (c ∷ cs)) (λ _. (lit< tt, omega arith)) (λ _.
    more_within (character_length 34 (c ∷ cs)) (string_from cs) (length cs) (string_from_within cs))

pub string_within : (cs : List ℕ) → IsWithin (string_length cs) (length cs)
string_within cs = string_from_within cs 0

pub comment_within : (cs : List ℕ) → IsWithin (comment_length cs) (length cs)
comment_within [] = tt
comment_within (c ∷ cs) =
    by_test (is_comment_end (c ∷ cs)) (Some 2) _ (length (c ∷ cs))
    (λ e. let some = begins_some cs 47 (both_true (c == 42) (starts_with nat_eq cs (47 ∷ [])) e).1 in (lit< tt, omega (arith, some)))
    (λ _. counted 1 (comment_length cs) (length cs) (length (c ∷ cs)) (omega arith) (comment_within cs))

-- a length that was found
pub found : (o : Option ℕ) (n m : ℕ) → Some n ≡ o → IsWithin o m → (0 < n) × (n ≤ m)
found o n m e h = subst (λ (x : Option ℕ). IsWithin x m) (sym e) h

-- Lexemes.

abbrev pub FitsIn : Lexeme → ℕ → Type 0
FitsIn (lexeme.Gap n f) m = (0 < n) × (n ≤ m)
FitsIn (lexeme.Token k n) m = (0 < n) × (n ≤ m)
FitsIn l m = Unit {0}

at_test : (b : Bool) (x y : Lexeme) (m : ℕ) → (b ≡ true → FitsIn x m) → (b ≡ false → FitsIn y m) → FitsIn (if b then x else y) m
at_test true x y m f g = f refl
at_test false x y m f g = g refl

-- one byte, and those of a word after it
word_fits : (c : ℕ) (cs : List ℕ) → (0 < length (c ∷ take (prefix_len is_word cs) cs)) × (length (c ∷ take (prefix_len is_word cs) cs) ≤ length (c ∷ cs))
word_fits c cs =
    let few = length-take-le (prefix_len is_word cs) cs (prefix_len-le-length is_word cs) in
    let within = prefix_len-le-length is_word cs in
    (omega arith, omega (arith, few, within))

literal_fits : (k : TokenKind) (o : Option ℕ) (m : ℕ) → IsWithin o m → FitsIn (literal_lexeme k o) (suc m)
literal_fits k None m h = tt
literal_fits k (Some n) m h = let few = h.1 in (omega arith, omega (arith, few))

comment_fits : (o : Option ℕ) (m : ℕ) → IsWithin o m → FitsIn (comment_lexeme o) (suc (suc m))
comment_fits None m h = tt
comment_fits (Some n) m h = let few = h.1 in (omega arith, omega (arith, few))

directive_fits : (cs : List ℕ) → FitsIn (directive_lexeme cs) (suc (length cs))
directive_fits cs =
    let few : line_length cs ≤ length cs = prefix_len-le-length (λ x. not (is_newline x)) cs in
    at_test (is_include (take (line_length cs) cs)) _ _ (suc (length cs)) (λ _. (omega arith, omega (arith, few))) (λ _. tt)

begun : (ws xs : List ℕ) → pointwise nat_eq ws (take (length ws) xs) ≡ true → length ws ≤ length xs
begun [] xs h = omega arith
begun (w ∷ ws) [] h = cc
begun (w ∷ ws) (x ∷ xs) h =
    let more = begun ws xs (both_true (nat_eq w x) (pointwise nat_eq ws (take (length ws) xs)) h).1 in
    omega (arith, more)

mark_at : (b : Bool) (text : List ℕ) (m : Mark) (o : Option Mark) → starts_with nat_eq text (mark_bytes m) ≡ b
    → FitsIn (mark_lexeme o) (length text) → FitsIn (mark_lexeme (cond b (Some m) o)) (length text)
mark_at true text m o e h = (mark_some m, begun (mark_bytes m) text e)
mark_at false text m o e h = h

mark_fits : (text : List ℕ) (ms : List Mark) → FitsIn (mark_lexeme (find (λ m. starts_with nat_eq text (mark_bytes m)) ms)) (length text)
mark_fits text [] = tt
mark_fits text (m ∷ ms) = mark_at (starts_with nat_eq text (mark_bytes m)) text m (find (λ k. starts_with nat_eq text (mark_bytes k)) ms) refl (mark_fits text ms)

constant_fits : (c : ℕ) (cs rest : List ℕ) → FitsIn (constant_lexeme (c ∷ take (prefix_len is_word cs) cs) rest) (length (c ∷ cs))
constant_fits c cs rest =
    at_test (starts_with nat_eq rest (46 ∷ []) || not (is_constant (c ∷ take (prefix_len is_word cs) cs))) (lexeme.Fault rule.Word) _ (length (c ∷ cs)) (λ _. tt) (λ _.
    at_test (is_wide (c ∷ take (prefix_len is_word cs) cs)) (lexeme.Fault rule.WideConstant) _ (length (c ∷ cs)) (λ _. tt) (λ _. word_fits c cs))

comment_at : (c : ℕ) (cs : List ℕ) → (c == 47 && starts_with nat_eq cs (42 ∷ [])) ≡ true → FitsIn (comment_lexeme (comment_length (drop 1 cs))) (length (c ∷ cs))
comment_at c [] h = let no = (both_true (c == 47) false h).1 in cc
comment_at c (d ∷ cs) h = comment_fits (comment_length cs) (length cs) (comment_within cs)

some_fits : (fresh : Bool) (c : ℕ) (cs : List ℕ) → FitsIn (lexeme_from fresh c cs) (length (c ∷ cs))
some_fits fresh c cs =
    at_test (is_space c) _ _ (length (c ∷ cs)) (λ _. (lit< tt, omega arith)) (λ _.
    at_test (is_letter c) _ _ (length (c ∷ cs)) (λ _. word_fits c cs) (λ _.
    at_test (is_digit c) _ _ (length (c ∷ cs)) (λ _. constant_fits c cs (drop (prefix_len is_word cs) cs)) (λ _.
    at_test (c == 39) _ _ (length (c ∷ cs)) (λ _. literal_fits kind.Character _ (length cs) (constant_within cs)) (λ _.
    at_test (c == 34) _ _ (length (c ∷ cs)) (λ _. literal_fits kind.Text _ (length cs) (string_within cs)) (λ _.
    at_test (c == 47 && starts_with nat_eq cs (42 ∷ [])) _ _ (length (c ∷ cs)) (comment_at c cs) (λ _.
    at_test (c == 35 && fresh) _ _ (length (c ∷ cs)) (λ _. directive_fits cs) (λ _.
    mark_fits (c ∷ cs) longest_first)))))))

pub lexeme_fits : (fresh : Bool) (text : List ℕ) → FitsIn (lexeme_at fresh text) (length text)
lexeme_fits fresh [] = tt
lexeme_fits fresh (c ∷ cs) = some_fits fresh c cs
