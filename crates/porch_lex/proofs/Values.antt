-- Values of right constants and escapes aren't cut.
use Rattle.std.proofs.Common.{◌≡◌, ℕ, ◌≤◌, nat_lt, min, Bool, true, false, if◌then◌else◌, List, Some, None, refl, arith}
use Rattle.porch_lex.specs.declared.token.TokenKind.TheVariants.{Whole}
use Rattle.std.specs.List.{list_any}
use Rattle.porch_lex.specs.Constants.{is_u, is_l, constant_base, constant_suffix, constant_value, number_in, greatest_value, greatest_unsigned}
use Rattle.porch_lex.specs.Literals.{if_byte}
use Rattle.porch_lex.specs.Values.{whole_of, byte_in}
use Rattle.porch_lex.specs.Spelling.{IsSpelling}

pub values_fit : (cs : List ℕ) → IsSpelling Whole cs → whole_of cs ≡ constant_value cs
values_fit cs s = fits_at (greatest_value (constant_base cs) (constant_suffix cs)) (constant_value cs) s.2 (small (list_any is_u (constant_suffix cs)) (list_any is_l (constant_suffix cs)) _)
  where
    small : (a b c : Bool) → (if a then greatest_unsigned else if b then 2147483647 else if c then 2147483647 else greatest_unsigned) ≤ greatest_unsigned
    small true b c = search arith
    small false true c = search arith
    small false false true = search arith
    small false false false = search arith

    fits_at : (g v : ℕ) → nat_lt g v ≡ false → g ≤ greatest_unsigned → min v greatest_unsigned ≡ v
    fits_at g v h l = grind (arith, h, l)

pub bytes_fit : (base : ℕ) (digits : List ℕ) (m n : ℕ) → if_byte (number_in base digits) m ≡ Some n → byte_in base digits ≡ number_in base digits
bytes_fit base digits m n h = fits_at (number_in base digits) (nat_lt 255 (number_in base digits)) refl h
  where
    fits_at : (v : ℕ) (b : Bool) → nat_lt 255 v ≡ b → (if b then None else Some m) ≡ Some n → min v 255 ≡ v
    fits_at v true e h = cc
    fits_at v false e h = grind (arith, e)
