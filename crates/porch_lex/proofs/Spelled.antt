-- The bytes of each token spell it.
use Rattle.std.proofs.Common.{◌≡◌, ℕ, suc, ◌+◌, ◌-◌, ◌≤◌, ◌==◌, nat_eq, ◌&&◌, ◌||◌, not, Bool, true, false, IsTrue, if◌then◌else◌, cond, List, [], ◌∷◌, length, take, drop, Option, Some, None, unwrap_or, refl, sym, ap, ◌∙◌, subst, arith, add-one, drop-drop}
use Rattle.std.specs.List.{starts_with, prefix_len, list_all, find}
use Rattle.std.specs.Str.{bytes_eq}
use Rattle.std.proofs.lemmas.Slice.Eq.{bytes_eq-Decides}
use Rattle.std.proofs.lemmas.List.{length-take-le}
use Rattle.std.proofs.lemmas.List.Folds.{length-prefix_len}
use Rattle.porch_tree.specs.declared.word.Keyword.{Keyword}
use Rattle.porch_tree.specs.declared.word.Mark.{Mark}
use Rattle.porch_tree.specs.Words.{keywords, keyword_bytes, mark_bytes}
use Rattle.porch_lex.specs.declared.refusal.Rule.TheVariants as rule
use Rattle.porch_lex.specs.declared.token.TokenKind.TheVariants as kind
use Rattle.porch_lex.specs.declared.token.Token.{Token}
use Rattle.porch_lex.specs.declared.lexeme.Lexeme.{Lexeme}
use Rattle.porch_lex.specs.declared.lexeme.Lexeme.TheVariants as lexeme
use Rattle.porch_lex.specs.Characters.{is_space, is_letter, is_digit, is_word}
use Rattle.porch_lex.specs.Constants.{is_constant, is_wide}
use Rattle.porch_lex.specs.Literals.{character_constant_length, string_length}
use Rattle.porch_lex.specs.Gaps.{comment_length, line_length, is_include}
use Rattle.porch_lex.specs.Lexemes.{keyword_of, word_kind, word_lexeme, constant_lexeme, literal_lexeme, comment_lexeme, directive_lexeme, longest_first, mark_lexeme, lexeme_from, lexeme_at}
use Rattle.porch_lex.specs.Words.{bytes_between}
use Rattle.porch_lex.specs.Tokens.{Lexes, done, gap, token, IsTokens}
use Rattle.porch_lex.specs.Spelling.{is_name, IsLiteral, IsSpelling, AreSpelled}
use Rattle.porch_lex.proofs.Tests.{code_same}
use Rattle.porch_lex.proofs.Within.{found, constant_within, string_within}
use Rattle.porch_lex.proofs.Stable.{constant_stable, string_stable}

abbrev SpellsIn : Lexeme → List ℕ → Type 0
SpellsIn (lexeme.Token k n) text = IsSpelling k (take n text)
SpellsIn l text = Unit {0}

at_test : (b : Bool) (x y : Lexeme) (text : List ℕ) → (b ≡ true → SpellsIn x text) → (b ≡ false → SpellsIn y text) → SpellsIn (if b then x else y) text
at_test true x y text f g = f refl
at_test false x y text f g = g refl

-- Words.

pub prefix_passes : (p : ℕ → Bool) (xs : List ℕ) → list_all p (take (prefix_len p xs) xs) ≡ true
prefix_passes p [] = refl
prefix_passes p (x ∷ xs) = passes_at (p x) refl (prefix_passes p xs)
  where
    passes_at : (b : Bool) → p x ≡ b → list_all p (take (prefix_len p xs) xs) ≡ true → list_all p (take (cond b (1 + prefix_len p xs) 0) (x ∷ xs)) ≡ true
    passes_at true e h =
        let one : 1 + prefix_len p xs ≡ suc (prefix_len p xs) = omega arith in
        ap (λ (n : ℕ). list_all p (take n (x ∷ xs))) one ∙ ap (λ (b : Bool). b && list_all p (take (prefix_len p xs) xs)) e ∙ h
    passes_at false e h = refl

word_taken : (c : ℕ) (cs : List ℕ) → take (length (c ∷ take (prefix_len is_word cs) cs)) (c ∷ cs) ≡ c ∷ take (prefix_len is_word cs) cs
word_taken c cs = ap (λ (n : ℕ). c ∷ take n cs) (length-prefix_len is_word cs)

passed : {A : Type 0} (p : A → Bool) (xs : List A) (x : A) → find p xs ≡ Some x → p x ≡ true
passed p [] x h = cc
passed {A} p (y ∷ ys) x h = passed_at (p y) refl h (passed p ys x)
  where
    passed_at : (b : Bool) → p y ≡ b → cond b (Some y) (find p ys) ≡ Some x → (find p ys ≡ Some x → p x ≡ true) → p x ≡ true
    passed_at true e h go = subst (λ (z : A). p z ≡ true) (ap (λ o. unwrap_or o y) h) e
    passed_at false e h go = go h

kind_spells : (w : List ℕ) (o : Option Keyword) → keyword_of w ≡ o → IsTrue (is_name w) → IsSpelling (word_kind o) w
kind_spells w None e h = (h, e)
kind_spells w (Some k) e h = (bytes_eq-Decides w (keyword_bytes k)).0 (passed (λ (j : Keyword). bytes_eq w (keyword_bytes j)) keywords k e)

word_spells : (c : ℕ) (cs : List ℕ) → is_letter c ≡ true → SpellsIn (word_lexeme (c ∷ take (prefix_len is_word cs) cs)) (c ∷ cs)
word_spells c cs h =
    let w : List ℕ = c ∷ take (prefix_len is_word cs) cs in
    let name : is_name w ≡ true = ap (λ (b : Bool). b && list_all is_word (take (prefix_len is_word cs) cs)) h ∙ prefix_passes is_word cs in
    subst (λ (x : List ℕ). IsSpelling (word_kind (keyword_of w)) x) (sym (word_taken c cs)) (kind_spells w (keyword_of w) refl name)

-- Constants.

not_wrong : (a b : Bool) → (a || not b) ≡ false → b ≡ true
not_wrong true b h = cc
not_wrong false true h = refl
not_wrong false false h = cc

constant_spells : (c : ℕ) (cs rest : List ℕ) → is_digit c ≡ true → SpellsIn (constant_lexeme (c ∷ take (prefix_len is_word cs) cs) rest) (c ∷ cs)
constant_spells c cs rest h =
    let w : List ℕ = c ∷ take (prefix_len is_word cs) cs in
    at_test (starts_with nat_eq rest (46 ∷ []) || not (is_constant w)) (lexeme.Fault rule.Word) _ (c ∷ cs) (λ _. tt) (λ right.
    at_test (is_wide w) (lexeme.Fault rule.WideConstant) (lexeme.Token kind.Whole (length w)) (c ∷ cs) (λ _. tt) (λ small.
    subst (λ (x : List ℕ). IsSpelling kind.Whole x) (sym (word_taken c cs))
    (h, not_wrong (starts_with nat_eq rest (46 ∷ [])) (is_constant w) right, small)))

-- Literals.

literal_at : (quote : ℕ) (reach : List ℕ → Option ℕ) (c : ℕ) (cs : List ℕ) (n : ℕ) → c ≡ quote → reach cs ≡ Some n → n ≤ length cs → reach (take n cs) ≡ Some n
    → IsLiteral quote reach (take (n + 1) (c ∷ cs))
literal_at quote reach c cs n q e l s =
    subst (λ (k : ℕ). IsLiteral quote reach (take k (c ∷ cs))) (sym (add-one n))
    (q, s ∙ ap Some (sym (length-take-le n cs l)))

character_spells : (c : ℕ) (cs : List ℕ) (o : Option ℕ) → c ≡ 39 → character_constant_length cs ≡ o → SpellsIn (literal_lexeme kind.Character o) (c ∷ cs)
character_spells c cs None q e = tt
character_spells c cs (Some n) q e =
    literal_at 39 character_constant_length c cs n q e (found (character_constant_length cs) n (length cs) (sym e) (constant_within cs)).1 (constant_stable cs n n e (omega arith))

string_spells : (c : ℕ) (cs : List ℕ) (o : Option ℕ) → c ≡ 34 → string_length cs ≡ o → SpellsIn (literal_lexeme kind.Text o) (c ∷ cs)
string_spells c cs None q e = tt
string_spells c cs (Some n) q e =
    literal_at 34 string_length c cs n q e (found (string_length cs) n (length cs) (sym e) (string_within cs)).1 (string_stable cs n n e (omega arith))

-- Marks, and what is no token.

mark_spells : (text : List ℕ) (o : Option Mark) → find (λ m. starts_with nat_eq text (mark_bytes m)) longest_first ≡ o → SpellsIn (mark_lexeme o) text
mark_spells text None e = tt
mark_spells text (Some m) e =
    sym ((bytes_eq-Decides (mark_bytes m) (take (length (mark_bytes m)) text)).0 (passed (λ (j : Mark). starts_with nat_eq text (mark_bytes j)) longest_first m e))

comment_spells : (o : Option ℕ) (text : List ℕ) → SpellsIn (comment_lexeme o) text
comment_spells None text = tt
comment_spells (Some n) text = tt

some_spells : (fresh : Bool) (c : ℕ) (cs : List ℕ) → SpellsIn (lexeme_from fresh c cs) (c ∷ cs)
some_spells fresh c cs =
    at_test (is_space c) _ _ (c ∷ cs) (λ _. tt) (λ _.
    at_test (is_letter c) _ _ (c ∷ cs) (word_spells c cs) (λ _.
    at_test (is_digit c) _ _ (c ∷ cs) (constant_spells c cs (drop (prefix_len is_word cs) cs)) (λ _.
    at_test (c == 39) _ _ (c ∷ cs) (λ q. character_spells c cs (character_constant_length cs) (code_same c 39 q) refl) (λ _.
    at_test (c == 34) _ _ (c ∷ cs) (λ q. string_spells c cs (string_length cs) (code_same c 34 q) refl) (λ _.
    at_test (c == 47 && starts_with nat_eq cs (42 ∷ [])) _ _ (c ∷ cs) (λ _. comment_spells (comment_length (drop 1 cs)) (c ∷ cs)) (λ _.
    at_test (c == 35 && fresh) (directive_lexeme cs) _ (c ∷ cs)
    (λ _. at_test (is_include (take (line_length cs) cs)) _ (lexeme.Fault rule.Outside) (c ∷ cs) (λ _. tt) (λ _. tt)) (λ _.
    mark_spells (c ∷ cs) _ refl)))))))

lexeme_spells : (fresh : Bool) (text : List ℕ) → SpellsIn (lexeme_at fresh text) text
lexeme_spells fresh [] = tt
lexeme_spells fresh (c ∷ cs) = some_spells fresh c cs

-- Whole texts.

spelled_from : (text : List ℕ) {fresh : Bool} {at : ℕ} {rest : List ℕ} {ts : List Token} → Lexes fresh at rest ts → rest ≡ drop at text → AreSpelled text ts
spelled_from text (done e) here = tt
spelled_from text {fresh} {at} (gap n next e more) here = spelled_from text more (ap (drop n) here ∙ drop-drop n at text)
spelled_from text {fresh} {at} {rest} (token kind n e more) here =
    let size : at + n - at ≡ n = omega arith in
    let bytes : take n rest ≡ bytes_between text at (at + n) = ap (take n) here ∙ ap (λ (k : ℕ). take k (drop at text)) (sym size) in (
      subst (λ (x : List ℕ). IsSpelling kind x) bytes (subst (λ (l : Lexeme). SpellsIn l rest) e (lexeme_spells fresh rest)),
      spelled_from text more (ap (drop n) here ∙ drop-drop n at text),
    )

pub tokens_are_spelled : (text : List ℕ) (ts : List Token) → IsTokens text ts → AreSpelled text ts
tokens_are_spelled text ts h = spelled_from text h.1 refl
