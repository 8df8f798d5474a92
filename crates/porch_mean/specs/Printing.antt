-- What putchar, puts and printf show, and what they give: the number of bytes, added up as an int behind all output.
use Rattle.std.specs.Prelude.{ℕ, ◌+◌, ℤ, pos, unsigned_abs, nat_eq, false, List, [], ◌∷◌, ◌++◌, length, if◌then◌else◌}
use Rattle.std.specs.Fmt.{signed_decimal, digits}
use Rattle.porch_types.specs.declared.shapes.Ty.{Ty}
use Rattle.porch_types.specs.declared.shapes.Kind.TheVariants.{Char}
use Rattle.porch_types.specs.Kinds.{kind_number}
use Rattle.porch_values.specs.Integers.{as_int_of}
use Rattle.porch_values.specs.declared.acts.Act.TheVariants.{Indeterminate}
use Rattle.porch_objects.specs.Store.{Value, number}
use Rattle.porch_objects.specs.Pointers as pointers
use Rattle.porch_objects.specs.Meaning.{Progress, with_shown, byte_of}
use Rattle.porch_typed.specs.declared.typed.Conversion.{Conversion}
use Rattle.porch_typed.specs.declared.typed.Conversion.TheVariants as conversion
use Rattle.porch_typed.specs.Mirror.{Print, Prints}
use Rattle.porch_typed.specs.Mirror as tree
use Rattle.porch_mean.specs.Outcome.{Outcome, Went, Undefined, with_result, use_number}

abbrev pub NEWLINE : ℕ
NEWLINE = 10

-- a number as a conversion of printf shows it
abbrev pub text_of : Conversion → ℤ → List ℕ
text_of conversion.Character z = byte_of z ∷ []
text_of conversion.Decimal z = signed_decimal z
text_of conversion.Unsigned z = signed_decimal z
text_of conversion.Hexadecimal z = digits 16 false (unsigned_abs z)
text_of conversion.Long z = signed_decimal z
text_of conversion.UnsignedLong z = signed_decimal z

-- the bytes of a literal up to its first byte 0
abbrev pub up_to_zero : List ℕ → List ℕ
up_to_zero [] = []
up_to_zero (b ∷ bs) = if nat_eq b 0 then [] else b ∷ up_to_zero bs

-- The number of bytes shown is the value, and has to be an int.
abbrev pub give_count : ℕ → Progress → Outcome
give_count count s = with_result (as_int_of (pos count)) s (λ z s. Went (number z) s)

-- A line of puts.
abbrev pub show_line : List ℕ → Progress → Outcome
show_line bytes s = give_count (length bytes + 1) (with_shown s (bytes ++ NEWLINE ∷ []))

-- putchar shows the low byte, and gives it.
abbrev pub show_character : ℤ → Progress → Outcome
show_character z s = Went (number (pos (byte_of z))) (with_shown s (byte_of z ∷ []))

module _ (types : List Ty) where
  -- The text that a pointer names.
  abbrev pub with_text : Value → Progress → (List ℕ → Progress → Outcome) → Outcome
  with_text p s go = with_result (pointers.text types (kind_number Char) s.store p) s go

  -- a piece's bytes, and the values that are left for the pieces behind it
  abbrev pub with_piece : Print → List Value → Progress → (List ℕ → List Value → Progress → Outcome) → Outcome
  with_piece (tree.bytes bs) vs s go = go bs vs s
  with_piece (tree.literal bs) vs s go = go (up_to_zero bs) vs s
  with_piece (tree.number how e) [] s go = Undefined Indeterminate s
  with_piece (tree.number how e) (v ∷ vs) s go = use_number v s (λ z s. go (text_of how z) vs s)
  with_piece (tree.text e) [] s go = Undefined Indeterminate s
  with_piece (tree.text e) (v ∷ vs) s go = with_text v s (λ bytes s. go bytes vs s)

  -- The pieces of printf one by one; a text that meets an act shows nothing.
  abbrev pub show_pieces : Prints → List Value → (count : ℕ) → Progress → Outcome
  show_pieces tree.no_prints vs count s = give_count count s
  show_pieces (tree.with_print x xs) vs count s =
      with_piece x vs s (λ bytes vs s. show_pieces xs vs (count + length bytes) (with_shown s bytes))
