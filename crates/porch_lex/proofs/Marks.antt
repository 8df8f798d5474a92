-- The longest mark is found by its first byte.
use Rattle.std.proofs.Common.{◌≡◌, ℕ, ◌<◌, ◌==◌, Bool, true, false, if◌then◌else◌, List, ◌∷◌, length, Option, Some, None, refl, sym, subst, lit<}
use Rattle.porch_tree.specs.declared.word.Mark.{Mark}
use Rattle.porch_tree.specs.declared.word.Mark.TheVariants as mark
use Rattle.porch_tree.specs.Words.{mark_bytes}
use Rattle.porch_lex.specs.Lexemes.{mark_in_front}
use Rattle.porch_lex.specs.inside.Marks.{mark_by_byte, mark_minus, mark_plus, mark_ampersand, mark_star, mark_exclamation, mark_slash, mark_percent, mark_less, mark_greater, mark_equal, mark_caret, mark_bar}
use Rattle.porch_lex.proofs.Tests.{code_same, code_other}

at_test : (b : Bool) (x y z : Option Mark) → (b ≡ true → x ≡ z) → (b ≡ false → y ≡ z) → (if b then x else y) ≡ z
at_test true x y z f g = f refl
at_test false x y z f g = g refl

at_byte : (k c : ℕ) (cs : List ℕ) (x y : Option Mark) → x ≡ mark_in_front (k ∷ cs) → ((c == k) ≡ false → y ≡ mark_in_front (c ∷ cs)) → (if c == k then x else y) ≡ mark_in_front (c ∷ cs)
at_byte k c cs x y e g =
    at_test (c == k) x y (mark_in_front (c ∷ cs)) (λ h. subst (λ (v : ℕ). x ≡ mark_in_front (v ∷ cs)) (sym (code_same c k h)) e) g

none : (c : ℕ) (cs : List ℕ) → (c == 91) ≡ false → (c == 93) ≡ false → (c == 40) ≡ false → (c == 41) ≡ false → (c == 123) ≡ false → (c == 125) ≡ false → (c == 46) ≡ false → (c == 45) ≡ false → (c == 43) ≡ false → (c == 38) ≡ false → (c == 42) ≡ false → (c == 126) ≡ false → (c == 33) ≡ false → (c == 47) ≡ false → (c == 37) ≡ false → (c == 60) ≡ false → (c == 62) ≡ false → (c == 61) ≡ false → (c == 94) ≡ false → (c == 124) ≡ false → (c == 63) ≡ false → (c == 58) ≡ false → (c == 59) ≡ false → (c == 44) ≡ false → None ≡ mark_in_front (c ∷ cs)
none c cs n91 n93 n40 n41 n123 n125 n46 n45 n43 n38 n42 n126 n33 n47 n37 n60 n62 n61 n94 n124 n63 n58 n59 n44 =
    rw (code_other c 91 n91, code_other c 93 n93, code_other c 40 n40, code_other c 41 n41, code_other c 123 n123, code_other c 125 n125, code_other c 46 n46, code_other c 45 n45, code_other c 43 n43, code_other c 38 n38, code_other c 42 n42, code_other c 126 n126, code_other c 33 n33, code_other c 47 n47, code_other c 37 n37, code_other c 60 n60, code_other c 62 n62, code_other c 61 n61, code_other c 94 n94, code_other c 124 n124, code_other c 63 n63, code_other c 58 n58, code_other c 59 n59, code_other c 44 n44) refl

pub by_byte : (c : ℕ) (cs : List ℕ) → mark_by_byte c cs ≡ mark_in_front (c ∷ cs)
by_byte c cs =
    at_byte 91 c cs (Some mark.OpenBracket) _ refl (λ n91.
    at_byte 93 c cs (Some mark.CloseBracket) _ refl (λ n93.
    at_byte 40 c cs (Some mark.OpenParenthesis) _ refl (λ n40.
    at_byte 41 c cs (Some mark.CloseParenthesis) _ refl (λ n41.
    at_byte 123 c cs (Some mark.OpenBrace) _ refl (λ n123.
    at_byte 125 c cs (Some mark.CloseBrace) _ refl (λ n125.
    at_byte 46 c cs (Some mark.Dot) _ refl (λ n46.
    at_byte 45 c cs (mark_minus cs) _ refl (λ n45.
    at_byte 43 c cs (mark_plus cs) _ refl (λ n43.
    at_byte 38 c cs (mark_ampersand cs) _ refl (λ n38.
    at_byte 42 c cs (mark_star cs) _ refl (λ n42.
    at_byte 126 c cs (Some mark.Tilde) _ refl (λ n126.
    at_byte 33 c cs (mark_exclamation cs) _ refl (λ n33.
    at_byte 47 c cs (mark_slash cs) _ refl (λ n47.
    at_byte 37 c cs (mark_percent cs) _ refl (λ n37.
    at_byte 60 c cs (mark_less cs) _ refl (λ n60.
    at_byte 62 c cs (mark_greater cs) _ refl (λ n62.
    at_byte 61 c cs (mark_equal cs) _ refl (λ n61.
    at_byte 94 c cs (mark_caret cs) _ refl (λ n94.
    at_byte 124 c cs (mark_bar cs) _ refl (λ n124.
    at_byte 63 c cs (Some mark.Question) _ refl (λ n63.
    at_byte 58 c cs (Some mark.Colon) _ refl (λ n58.
    at_byte 59 c cs (Some mark.Semicolon) _ refl (λ n59.
    at_byte 44 c cs (Some mark.Comma) _ refl (λ n44.
    none c cs n91 n93 n40 n41 n123 n125 n46 n45 n43 n38 n42 n126 n33 n47 n37 n60 n62 n61 n94 n124 n63 n58 n59 n44))))))))))))))))))))))))

pub mark_some : (m : Mark) → 0 < length (mark_bytes m)
mark_some mark.OpenBracket = lit< tt
mark_some mark.CloseBracket = lit< tt
mark_some mark.OpenParenthesis = lit< tt
mark_some mark.CloseParenthesis = lit< tt
mark_some mark.OpenBrace = lit< tt
mark_some mark.CloseBrace = lit< tt
mark_some mark.Dot = lit< tt
mark_some mark.Arrow = lit< tt
mark_some mark.PlusPlus = lit< tt
mark_some mark.MinusMinus = lit< tt
mark_some mark.And = lit< tt
mark_some mark.Star = lit< tt
mark_some mark.Plus = lit< tt
mark_some mark.Minus = lit< tt
mark_some mark.Tilde = lit< tt
mark_some mark.Not = lit< tt
mark_some mark.Slash = lit< tt
mark_some mark.Percent = lit< tt
mark_some mark.ShiftLeft = lit< tt
mark_some mark.ShiftRight = lit< tt
mark_some mark.Less = lit< tt
mark_some mark.Greater = lit< tt
mark_some mark.LessEqual = lit< tt
mark_some mark.GreaterEqual = lit< tt
mark_some mark.EqualEqual = lit< tt
mark_some mark.NotEqual = lit< tt
mark_some mark.Caret = lit< tt
mark_some mark.Or = lit< tt
mark_some mark.AndAnd = lit< tt
mark_some mark.OrOr = lit< tt
mark_some mark.Question = lit< tt
mark_some mark.Colon = lit< tt
mark_some mark.Semicolon = lit< tt
mark_some mark.Equal = lit< tt
mark_some mark.StarEqual = lit< tt
mark_some mark.SlashEqual = lit< tt
mark_some mark.PercentEqual = lit< tt
mark_some mark.PlusEqual = lit< tt
mark_some mark.MinusEqual = lit< tt
mark_some mark.ShiftLeftEqual = lit< tt
mark_some mark.ShiftRightEqual = lit< tt
mark_some mark.AndEqual = lit< tt
mark_some mark.CaretEqual = lit< tt
mark_some mark.OrEqual = lit< tt
mark_some mark.Comma = lit< tt
