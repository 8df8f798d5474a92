-- What the pieces of a text are, against what tokens are spelled as.
use Rattle.std.proofs.Common.{◌≡◌, ◌≢◌, ℕ, ℤ, pos, zero, suc, ◌+◌, ◌<◌, ◌≤◌, ◌^◌, ◌==◌, nat_lt, ◌&&◌, ◌||◌, not, Bool, true, false, IsTrue, if◌then◌else◌, cond, List, [], ◌∷◌, ◌++◌, length, take, drop, codes, slice_get, get_or, Some, refl, sym, ap, subst, ◌∙◌, arith}
use Rattle.std.specs.List.{list_all, list_any, prefix_len}
use Rattle.std.specs.Str.{bytes_eq}
use Rattle.std.proofs.lemmas.Slice.Eq.{bytes_eq-Decides}
use Rattle.porch_syntax.specs.declared.token.Token.{Token}
use Rattle.porch_syntax.specs.declared.token.Token.TheVariants as token
use Rattle.porch_syntax.specs.declared.lexeme.Lexeme.{Lexeme}
use Rattle.porch_syntax.specs.declared.lexeme.Lexeme.TheVariants.{Fixed, Name, Wrong}
use Rattle.porch_syntax.specs.Token.{is_between, is_space, is_digit, is_letter, is_word, is_name, is_decimal, decimal_of, reserved, IsSpelling, is_whole}
use Rattle.porch_syntax.specs.Language.{IsFresh, AreNames}
use Rattle.porch_syntax.specs.inside.Lexing.{decimal_kind, name_kind, word_kind, mark_kind, quoted_kind, other_kind, kind_of, quoted_more, more_of, length_of}

-- Tests.

pub both_true : (a b : Bool) → (a && b) ≡ true → (a ≡ true) × (b ≡ true)
both_true true b h = (refl, h)
both_true false b h = cc

pub true_both : (a b : Bool) → a ≡ true → b ≡ true → (a && b) ≡ true
true_both true b h k = k
true_both false b h k = cc

or_true : (a : Bool) → (a || true) ≡ true
or_true true = refl
or_true false = refl

pub bytes_same : (xs ys : List ℕ) → bytes_eq xs ys ≡ true → xs ≡ ys
bytes_same xs ys h = (bytes_eq-Decides xs ys).0 h

pub bytes_own : (xs : List ℕ) → bytes_eq xs xs ≡ true
bytes_own xs = (bytes_eq-Decides xs xs).1 refl

not_true : (b : Bool) → (b ≡ true → ⊥) → b ≡ false
not_true true h = absurd (h refl)
not_true false h = refl

pub bytes_other : (xs ys : List ℕ) → xs ≢ ys → bytes_eq xs ys ≡ false
bytes_other xs ys h = not_true (bytes_eq xs ys) (λ e. h (bytes_same xs ys e))

code_same : (x y : ℕ) → (x == y) ≡ true → x ≡ y
code_same x y h = search (arith, h)

low_word : (c : ℕ) → is_word c ≡ true → 48 ≤ c
low_word c h = grind (arith, h)

low_space : (c : ℕ) → is_space c ≡ true → c ≤ 32
low_space c h = grind (arith, h)

pub word_not_space : (c : ℕ) → is_word c ≡ true → is_space c ≡ false
word_not_space c h = not_true (is_space c) (λ e. let low = low_word c h in let high = low_space c e in omega (arith, low, high))

digit_not_letter : (c : ℕ) → is_digit c ≡ true → is_letter c ≡ false
digit_not_letter c h = not_true (is_letter c) (λ e. grind (arith, h, e))

letter_word : (c : ℕ) → is_letter c ≡ true → is_word c ≡ true
letter_word c h = ap (λ (b : Bool). b || is_digit c) h

digit_word : (c : ℕ) → is_digit c ≡ true → is_word c ≡ true
digit_word c h = ap (λ (b : Bool). is_letter c || b) h ∙ or_true (is_letter c)

-- What a piece is.

-- a token that isn't a name
abbrev pub Unnamed : Token → Type 0
Unnamed (token.Name x) = ⊥
Unnamed _ = Unit {0}

abbrev pub KindIs : List ℕ → Lexeme → Type 0
KindIs cs (Fixed t) = Unnamed t × ((names : List (List ℕ)) → IsSpelling names t cs)
KindIs cs Name = IsTrue (is_name cs) × IsFresh cs reserved
KindIs cs Wrong = Unit {0}

if_is : (cs : List ℕ) (b : Bool) (x y : Lexeme) → (b ≡ true → KindIs cs x) → (b ≡ false → KindIs cs y) → KindIs cs (if b then x else y)
if_is cs true x y f g = f refl
if_is cs false x y f g = g refl

and_false : (a : Bool) → not (a && false) ≡ true
and_false true = refl
and_false false = refl

or_false : (a b : Bool) → (a || b) ≡ false → (a ≡ false) × (b ≡ false)
or_false true b h = cc
or_false false b h = (refl, h)

pub differs : (cs w : List ℕ) → bytes_eq cs w ≡ false → cs ≢ w
differs cs w h e = let own = (bytes_eq-Decides cs w).1 e in let no : true ≡ false = sym own ∙ h in cc

pub fresh_from : (cs : List ℕ) (ws : List (List ℕ)) → list_any (bytes_eq cs) ws ≡ false → IsFresh cs ws
fresh_from cs [] h = tt
fresh_from cs (w ∷ ws) h =
    let parts = or_false (bytes_eq cs w) (list_any (bytes_eq cs) ws) h in
    (differs cs w parts.0, fresh_from cs ws parts.1)

pub fresh_none : (cs : List ℕ) (ws : List (List ℕ)) → IsFresh cs ws → list_any (bytes_eq cs) ws ≡ false
fresh_none cs [] h = refl
fresh_none cs (w ∷ ws) h = ap (λ (b : Bool). b || list_any (bytes_eq cs) ws) (bytes_other cs w h.0) ∙ fresh_none cs ws h.1

name_kind_is : (cs : List ℕ) → IsTrue (is_name cs) → KindIs cs (name_kind cs)
name_kind_is cs h = if_is cs (list_any (bytes_eq cs) reserved) Wrong Name (λ e. tt) (λ e. (h, fresh_from cs reserved e))

word_kind_is : (cs : List ℕ) → IsTrue (is_name cs) → KindIs cs (word_kind cs)
word_kind_is cs h =
    if_is cs (bytes_eq cs (codes "int")) (Fixed token.Int) _ (λ e. (tt, λ names. bytes_same cs (codes "int") e)) (λ _.
    if_is cs (bytes_eq cs (codes "main")) (Fixed token.Main) _ (λ e. (tt, λ names. bytes_same cs (codes "main") e)) (λ _.
    if_is cs (bytes_eq cs (codes "void")) (Fixed token.Void) _ (λ e. (tt, λ names. bytes_same cs (codes "void") e)) (λ _.
    if_is cs (bytes_eq cs (codes "while")) (Fixed token.While) _ (λ e. (tt, λ names. bytes_same cs (codes "while") e)) (λ _.
    if_is cs (bytes_eq cs (codes "return")) (Fixed token.Return) _ (λ e. (tt, λ names. bytes_same cs (codes "return") e)) (λ _.
    if_is cs (bytes_eq cs (codes "putchar")) (Fixed token.Putchar) (name_kind cs) (λ e. (tt, λ names. bytes_same cs (codes "putchar") e)) (λ _.
    name_kind_is cs h))))))

below_is : (x n : ℕ) → nat_lt x n ≡ true → x < n
below_is x n h = search (arith, h)

decimal_kind_is : (cs : List ℕ) → IsTrue (is_decimal cs) → KindIs cs (decimal_kind cs)
decimal_kind_is cs h =
    if_is cs (nat_lt (decimal_of cs) 2147483648) (Fixed (token.Whole (pos (decimal_of cs)))) Wrong
    (λ e. (tt, λ names. (h, below_is (decimal_of cs) 2147483648 e, refl))) (λ _. tt)

one : (c k : ℕ) → (c == k) ≡ true → c ∷ [] ≡ k ∷ []
one c k h = ap (λ (x : ℕ). x ∷ []) (code_same c k h)

mark_kind_is : (c : ℕ) → KindIs (c ∷ []) (mark_kind c)
mark_kind_is c =
    if_is (c ∷ []) (c == 40) (Fixed token.OpenParenthesis) _ (λ e. (tt, λ names. one c 40 e)) (λ _.
    if_is (c ∷ []) (c == 41) (Fixed token.CloseParenthesis) _ (λ e. (tt, λ names. one c 41 e)) (λ _.
    if_is (c ∷ []) (c == 123) (Fixed token.OpenBrace) _ (λ e. (tt, λ names. one c 123 e)) (λ _.
    if_is (c ∷ []) (c == 125) (Fixed token.CloseBrace) _ (λ e. (tt, λ names. one c 125 e)) (λ _.
    if_is (c ∷ []) (c == 59) (Fixed token.Semicolon) _ (λ e. (tt, λ names. one c 59 e)) (λ _.
    if_is (c ∷ []) (c == 61) (Fixed token.Assign) _ (λ e. (tt, λ names. one c 61 e)) (λ _.
    if_is (c ∷ []) (c == 60) (Fixed token.Less) _ (λ e. (tt, λ names. one c 60 e)) (λ _.
    if_is (c ∷ []) (c == 43) (Fixed token.Plus) _ (λ e. (tt, λ names. one c 43 e)) (λ _.
    if_is (c ∷ []) (c == 45) (Fixed token.Minus) _ (λ e. (tt, λ names. one c 45 e)) (λ _.
    if_is (c ∷ []) (c == 42) (Fixed token.Star) Wrong (λ e. (tt, λ names. one c 42 e)) (λ _. tt))))))))))

abbrev plain : ℕ → Bool
plain c = is_between 32 126 c && not (c == 39) && not (c == 92)

quoted_is : (q c r : ℕ) → q ≡ 39 → r ≡ 39 → q ∷ c ∷ r ∷ [] ≡ 39 ∷ c ∷ 39 ∷ []
quoted_is q c r h k = ap (λ (x : ℕ). x ∷ c ∷ r ∷ []) h ∙ ap (λ (x : ℕ). 39 ∷ c ∷ x ∷ []) k

quoted_kind_is : (q c r : ℕ) → KindIs (q ∷ c ∷ r ∷ []) (quoted_kind q c r)
quoted_kind_is q c r =
    if_is (q ∷ c ∷ r ∷ []) ((q == 39) && ((r == 39) && plain c)) (Fixed (token.Character c)) Wrong
    (λ e.
    let first = both_true (q == 39) ((r == 39) && plain c) e in
    let rest = both_true (r == 39) (plain c) first.1 in
    (tt, λ names. (quoted_is q c r (code_same q 39 first.0) (code_same r 39 rest.0), rest.1)))
    (λ _. tt)

other_kind_is : (cs : List ℕ) → KindIs cs (other_kind cs)
other_kind_is [] = tt
other_kind_is (c ∷ []) = mark_kind_is c
other_kind_is (q ∷ c ∷ []) = tt
other_kind_is (q ∷ c ∷ r ∷ []) = quoted_kind_is q c r
other_kind_is (q ∷ c ∷ r ∷ s ∷ cs) = tt

-- what a piece is, it is spelled as
pub kind_is : (cs : List ℕ) → KindIs cs (kind_of cs)
kind_is cs =
    if_is cs (is_name cs) (word_kind cs) _ (word_kind_is cs) (λ _.
    if_is cs (is_decimal cs) (decimal_kind cs) (other_kind cs) (decimal_kind_is cs) (λ _. other_kind_is cs))

-- And the other way round.

abbrev pub KindFor : Token → Lexeme → Type 0
KindFor (token.Name x) k = k ≡ Name
KindFor t k = k ≡ Fixed t

if_true : (b : Bool) (x y : Lexeme) → b ≡ true → (if b then x else y) ≡ x
if_true true x y h = refl
if_true false x y h = cc

if_false : (b : Bool) (x y : Lexeme) → b ≡ false → (if b then x else y) ≡ y
if_false true x y h = cc
if_false false x y h = refl

fresh_not_at : (cs w x : List ℕ) (ws : List (List ℕ)) (b : Bool) → bytes_eq w x ≡ b → IsFresh cs (x ∷ ws) → (IsTrue (list_any (bytes_eq w) ws) → cs ≢ w)
    → (b || list_any (bytes_eq w) ws) ≡ true → cs ≢ w
fresh_not_at cs w x ws true e h go k q = h.0 (q ∙ bytes_same w x e)
fresh_not_at cs w x ws false e h go k q = go k q

fresh_not : (cs w : List ℕ) (ws : List (List ℕ)) → IsFresh cs ws → IsTrue (list_any (bytes_eq w) ws) → cs ≢ w
fresh_not cs w [] h e = λ q. cc
fresh_not cs w (x ∷ ws) h e = fresh_not_at cs w x ws (bytes_eq w x) refl h (fresh_not cs w ws h.1) e

no_word : (cs w : List ℕ) → IsFresh cs reserved → IsTrue (list_any (bytes_eq w) reserved) → bytes_eq cs w ≡ false
no_word cs w h e = bytes_other cs w (fresh_not cs w reserved h e)

name_for : (cs : List ℕ) → IsTrue (is_name cs) → IsFresh cs reserved → kind_of cs ≡ Name
name_for cs h f =
    if_true (is_name cs) (word_kind cs) _ h
    ∙ if_false (bytes_eq cs (codes "int")) _ _ (no_word cs (codes "int") f refl)
    ∙ if_false (bytes_eq cs (codes "main")) _ _ (no_word cs (codes "main") f refl)
    ∙ if_false (bytes_eq cs (codes "void")) _ _ (no_word cs (codes "void") f refl)
    ∙ if_false (bytes_eq cs (codes "while")) _ _ (no_word cs (codes "while") f refl)
    ∙ if_false (bytes_eq cs (codes "return")) _ _ (no_word cs (codes "return") f refl)
    ∙ if_false (bytes_eq cs (codes "putchar")) _ _ (no_word cs (codes "putchar") f refl)
    ∙ if_false (list_any (bytes_eq cs) reserved) Wrong Name (fresh_none cs reserved f)

false_and : (a b : Bool) → a ≡ false → (a && b) ≡ false
false_and true b h = cc
false_and false b h = refl

decimal_not_name : (cs : List ℕ) → is_decimal cs ≡ true → is_name cs ≡ false
decimal_not_name [] h = refl
decimal_not_name (c ∷ []) h = false_and (is_letter c) _ (digit_not_letter c h)
decimal_not_name (c ∷ d ∷ cs) h =
    let first = both_true (is_digit c && not (c == 48)) (list_all is_digit (d ∷ cs)) h in
    false_and (is_letter c) _ (digit_not_letter c (both_true (is_digit c) (not (c == 48)) first.0).0)

not_above : (n m : ℕ) → n < m → nat_lt n m ≡ true
not_above n m h = search arith

decimal_for : (cs : List ℕ) (z : ℤ) → is_decimal cs ≡ true → decimal_of cs < 2 ^ 31 → z ≡ pos (decimal_of cs) → kind_of cs ≡ Fixed (token.Whole z)
decimal_for cs z h small e =
    if_false (is_name cs) _ _ (decimal_not_name cs h)
    ∙ if_true (is_decimal cs) _ _ h
    ∙ if_true (nat_lt (decimal_of cs) 2147483648) _ Wrong (not_above (decimal_of cs) 2147483648 small)
    ∙ ap (λ (x : ℤ). Fixed (token.Whole x)) (sym e)

character_for : (cs : List ℕ) (c : ℕ) → cs ≡ 39 ∷ c ∷ 39 ∷ [] → plain c ≡ true → kind_of cs ≡ Fixed (token.Character c)
character_for cs c h p = ap kind_of h ∙ if_true (plain c) (Fixed (token.Character c)) Wrong p

pub named_at : (names : List (List ℕ)) (x : ℕ) (cs : List ℕ) → AreNames names → slice_get names x ≡ Some cs → IsTrue (is_name cs) × IsFresh cs reserved
named_at [] x cs h e = cc
named_at (n ∷ names) zero cs h e =
    let same : n ≡ cs = cc in
    subst (λ (y : List ℕ). IsTrue (is_name y) × IsFresh y reserved) same (h.0, h.1)
named_at (n ∷ names) (suc x) cs h e = named_at names x cs h.3 e

pub kind_for : (names : List (List ℕ)) (t : Token) (cs : List ℕ) → AreNames names → IsSpelling names t cs → KindFor t (kind_of cs)
kind_for names token.Int cs a h = ap kind_of h
kind_for names token.Main cs a h = ap kind_of h
kind_for names token.Void cs a h = ap kind_of h
kind_for names token.While cs a h = ap kind_of h
kind_for names token.Return cs a h = ap kind_of h
kind_for names token.Putchar cs a h = ap kind_of h
kind_for names (token.Name x) cs a h = let n = named_at names x cs a h in name_for cs n.0 n.1
kind_for names (token.Whole z) cs a h = decimal_for cs z h.0 h.1 h.2
kind_for names (token.Character c) cs a h = character_for cs c h.0 h.1
kind_for names token.OpenParenthesis cs a h = ap kind_of h
kind_for names token.CloseParenthesis cs a h = ap kind_of h
kind_for names token.OpenBrace cs a h = ap kind_of h
kind_for names token.CloseBrace cs a h = ap kind_of h
kind_for names token.Semicolon cs a h = ap kind_of h
kind_for names token.Assign cs a h = ap kind_of h
kind_for names token.Less cs a h = ap kind_of h
kind_for names token.Plus cs a h = ap kind_of h
kind_for names token.Minus cs a h = ap kind_of h
kind_for names token.Star cs a h = ap kind_of h

-- How long a piece is.

-- a piece in front of the rest of a text
pub record Piece (cs rest : List ℕ) : Type 0 where
  pub some : 0 < length (cs ++ rest)
  pub seen : is_space (get_or (cs ++ rest) 0 0) ≡ false
  pub long : length_of (cs ++ rest) ≡ length cs

abbrev Stops : List ℕ → Type 0
Stops [] = Unit {0}
Stops (r ∷ rest) = is_word r ≡ false

stops_at : (c r : ℕ) → is_word c ≡ true → not (is_word c && is_word r) ≡ true → is_word r ≡ false
stops_at c r h k = not_true (is_word r) (λ e. let no = rw (h, e) at k in cc)

whole_stops : (c : ℕ) (cs rest : List ℕ) → is_word c ≡ true → is_whole (c ∷ cs) rest ≡ true → Stops rest
whole_stops c cs [] h k = tt
whole_stops c cs (r ∷ rest) h k = stops_at c r h k

none_more : (rest : List ℕ) → Stops rest → prefix_len is_word rest ≡ 0
none_more [] h = refl
none_more (r ∷ rest) h = ap (λ (b : Bool). cond b (1 + prefix_len is_word rest) 0) h

all_more : (cs rest : List ℕ) → list_all is_word cs ≡ true → Stops rest → prefix_len is_word (cs ++ rest) ≡ length cs
all_more [] rest h s = none_more rest s
all_more (c ∷ cs) rest h s =
    let parts = both_true (is_word c) (list_all is_word cs) h in
    let more = all_more cs rest parts.1 s in
    ap (λ (b : Bool). cond b (1 + prefix_len is_word (cs ++ rest)) 0) parts.0 ∙ omega (arith, more)

more_word : (c : ℕ) (cs rest : List ℕ) → is_word c ≡ true → list_all is_word cs ≡ true → is_whole (c ∷ cs) rest ≡ true → more_of c (cs ++ rest) ≡ length cs
more_word c cs rest h a k =
    ap (λ (b : Bool). if b then prefix_len is_word (cs ++ rest) else if c == 39 then quoted_more (cs ++ rest) else 0) h
    ∙ all_more cs rest a (whole_stops c cs rest h k)

word_piece : (cs rest : List ℕ) → 0 < length cs → list_all is_word cs ≡ true → is_whole cs rest ≡ true → Piece cs rest
word_piece [] rest s h k = absurd (omega arith)
word_piece (c ∷ cs) rest s h k =
    let parts = both_true (is_word c) (list_all is_word cs) h in
    let more = more_word c cs rest parts.0 parts.1 k in
    record { some = omega arith; seen = word_not_space c parts.0; long = omega (arith, more) }

all_words : (cs : List ℕ) → list_all is_digit cs ≡ true → list_all is_word cs ≡ true
all_words [] h = refl
all_words (c ∷ cs) h =
    let parts = both_true (is_digit c) (list_all is_digit cs) h in
    true_both (is_word c) (list_all is_word cs) (digit_word c parts.0) (all_words cs parts.1)

name_words : (cs : List ℕ) → is_name cs ≡ true → (0 < length cs) × (list_all is_word cs ≡ true)
name_words [] h = cc
name_words (c ∷ cs) h =
    let parts = both_true (is_letter c) (list_all is_word cs) h in
    (omega arith, true_both (is_word c) (list_all is_word cs) (letter_word c parts.0) parts.1)

decimal_words : (cs : List ℕ) → is_decimal cs ≡ true → (0 < length cs) × (list_all is_word cs ≡ true)
decimal_words [] h = cc
decimal_words (c ∷ []) h = (omega arith, true_both (is_word c) true (digit_word c h) refl)
decimal_words (c ∷ d ∷ cs) h =
    let parts = both_true (is_digit c && not (c == 48)) (list_all is_digit (d ∷ cs)) h in
    let first = both_true (is_digit c) (not (c == 48)) parts.0 in
    (omega arith, true_both (is_word c) (list_all is_word (d ∷ cs)) (digit_word c first.0) (all_words (d ∷ cs) parts.1))

fixed_word : (cs w rest : List ℕ) → cs ≡ w → 0 < length w → list_all is_word w ≡ true → is_whole cs rest ≡ true → Piece cs rest
fixed_word cs w rest h s a k =
    let some : 0 < length cs = rw h s in
    word_piece cs rest some (ap (list_all is_word) h ∙ a) k

fixed_mark : (cs w rest : List ℕ) → cs ≡ w → Piece w rest → Piece cs rest
fixed_mark cs w rest h p = subst (λ (x : List ℕ). Piece x rest) (sym h) p

mark_piece : (c : ℕ) (rest : List ℕ) → is_space c ≡ false → more_of c rest ≡ 0 → Piece (c ∷ []) rest
mark_piece c rest s m = record { some = omega arith; seen = s; long = omega (arith, m) }

character_piece : (c : ℕ) (rest : List ℕ) → Piece (39 ∷ c ∷ 39 ∷ []) rest
character_piece c rest = record { some = omega arith; seen = refl; long = refl }

pub piece_for : (names : List (List ℕ)) (t : Token) (cs rest : List ℕ) → AreNames names → IsSpelling names t cs → is_whole cs rest ≡ true → Piece cs rest
piece_for names token.Int cs rest a h k = fixed_word cs (codes "int") rest h (omega arith) refl k
piece_for names token.Main cs rest a h k = fixed_word cs (codes "main") rest h (omega arith) refl k
piece_for names token.Void cs rest a h k = fixed_word cs (codes "void") rest h (omega arith) refl k
piece_for names token.While cs rest a h k = fixed_word cs (codes "while") rest h (omega arith) refl k
piece_for names token.Return cs rest a h k = fixed_word cs (codes "return") rest h (omega arith) refl k
piece_for names token.Putchar cs rest a h k = fixed_word cs (codes "putchar") rest h (omega arith) refl k
piece_for names (token.Name x) cs rest a h k = let w = name_words cs (named_at names x cs a h).0 in word_piece cs rest w.0 w.1 k
piece_for names (token.Whole z) cs rest a h k = let w = decimal_words cs h.0 in word_piece cs rest w.0 w.1 k
piece_for names (token.Character c) cs rest a h k = fixed_mark cs _ rest h.0 (character_piece c rest)
piece_for names token.OpenParenthesis cs rest a h k = fixed_mark cs (40 ∷ []) rest h (mark_piece 40 rest refl refl)
piece_for names token.CloseParenthesis cs rest a h k = fixed_mark cs (41 ∷ []) rest h (mark_piece 41 rest refl refl)
piece_for names token.OpenBrace cs rest a h k = fixed_mark cs (123 ∷ []) rest h (mark_piece 123 rest refl refl)
piece_for names token.CloseBrace cs rest a h k = fixed_mark cs (125 ∷ []) rest h (mark_piece 125 rest refl refl)
piece_for names token.Semicolon cs rest a h k = fixed_mark cs (59 ∷ []) rest h (mark_piece 59 rest refl refl)
piece_for names token.Assign cs rest a h k = fixed_mark cs (61 ∷ []) rest h (mark_piece 61 rest refl refl)
piece_for names token.Less cs rest a h k = fixed_mark cs (60 ∷ []) rest h (mark_piece 60 rest refl refl)
piece_for names token.Plus cs rest a h k = fixed_mark cs (43 ∷ []) rest h (mark_piece 43 rest refl refl)
piece_for names token.Minus cs rest a h k = fixed_mark cs (45 ∷ []) rest h (mark_piece 45 rest refl refl)
piece_for names token.Star cs rest a h k = fixed_mark cs (42 ∷ []) rest h (mark_piece 42 rest refl refl)

-- A piece is whole.

pub one_suc : (n : ℕ) → 1 + n ≡ suc n
one_suc n = omega arith

stops_behind_at : (c : ℕ) (cs : List ℕ) (b : Bool) → is_word c ≡ b → Stops (drop (prefix_len is_word cs) cs) → Stops (drop (cond b (1 + prefix_len is_word cs) 0) (c ∷ cs))
stops_behind_at c cs false e h = e
stops_behind_at c cs true e h = subst (λ (k : ℕ). Stops (drop k (c ∷ cs))) (sym (one_suc (prefix_len is_word cs))) h

stops_behind : (cs : List ℕ) → Stops (drop (prefix_len is_word cs) cs)
stops_behind [] = tt
stops_behind (c ∷ cs) = stops_behind_at c cs (is_word c) refl (stops_behind cs)

stops_whole : (c : ℕ) (cs rest : List ℕ) → Stops rest → is_whole (c ∷ cs) rest ≡ true
stops_whole c cs [] h = refl
stops_whole c cs (r ∷ rest) h = ap (λ (b : Bool). not (is_word c && b)) h ∙ and_false (is_word c)

mark_whole : (c : ℕ) (cs rest : List ℕ) → is_word c ≡ false → is_whole (c ∷ cs) rest ≡ true
mark_whole c cs [] h = refl
mark_whole c cs (r ∷ rest) h = ap (λ (b : Bool). not (b && is_word r)) h

whole_at : (c : ℕ) (cs : List ℕ) (b : Bool) (n : ℕ) → is_word c ≡ b → (if b then prefix_len is_word cs else n) ≡ (if b then prefix_len is_word cs else n)
    → is_whole (c ∷ take (if b then prefix_len is_word cs else n) cs) (drop (if b then prefix_len is_word cs else n) cs) ≡ true
whole_at c cs true n e k = stops_whole c (take (prefix_len is_word cs) cs) (drop (prefix_len is_word cs) cs) (stops_behind cs)
whole_at c cs false n e k = mark_whole c (take n cs) (drop n cs) e

pub whole_piece : (c : ℕ) (cs : List ℕ) → is_whole (c ∷ take (more_of c cs) cs) (drop (more_of c cs) cs) ≡ true
whole_piece c cs = whole_at c cs (is_word c) (if c == 39 then quoted_more cs else 0) refl refl
