-- Arguments of printf that are no literals.
use Rattle.std.proofs.Common.{◌≡◌, ℕ, Bool, false, true, if◌then◌else◌, Ok, Err, refl, sym, ap, ◌∙◌}
use Rattle.porch_lex.specs.declared.refusal.Refusal.{Refusal}
use Rattle.porch_lex.specs.declared.refusal.Rule.TheVariants.{Format}
use Rattle.porch_typed.specs.declared.typed.Conversion.{Conversion}
use Rattle.porch_typed.specs.Mirror.{Print}
use Rattle.porch_typed.specs.Mirror as tree
use Rattle.porch_check.specs.Refusals.{refuse, and_then}
use Rattle.porch_check.specs.Scopes.{Scopes}
use Rattle.porch_check.specs.Operands.{Form, operand, place, literal, size, sized, callee, library_callee, Typed, Typing, go_on, value_of}
use Rattle.porch_check.specs.Calls.{Argument, is_char_pointer, is_taken, printed, printed_number, printed_text, shown_number}
use Rattle.porch_arguments.specs.Literals.{is_literal}
use Rattle.porch_literals.specs.Directives.{as_directive}
use Rattle.porch_literals.specs.declared.directive.Shown.{Shown}
use Rattle.porch_literals.specs.declared.directive.Shown.TheVariants.{Number, Text}
use Rattle.porch_formats.specs.inside.Shown.{text_of_value}
use Rattle.std.specs.Prelude.{List}

pub other_number : (how : Conversion) (at : ℕ) (f : Form) (s : Scopes) → is_literal f ≡ false
    → printed_number how at f s ≡ go_on (value_of at f s) (λ x s. and_then (shown_number how at x x.value) (λ p. Ok (p, s)))
other_number how at (operand x) s h = refl
other_number how at (place p n) s h = refl
other_number how at (literal bs) s h = absurd (cc)
other_number how at (size n) s h = refl
other_number how at (sized x n) s h = refl
other_number how at (callee n) s h = refl
other_number how at (library_callee l) s h = refl

pub other_text : (at : ℕ) (f : Form) (s : Scopes) → is_literal f ≡ false
    → printed_text at f s ≡ go_on (value_of at f s) (λ x s. text_of_value at s x)
other_text at (operand x) s h = refl
other_text at (place p n) s h = refl
other_text at (literal bs) s h = absurd (cc)
other_text at (size n) s h = refl
other_text at (sized x n) s h = refl
other_text at (callee n) s h = refl
other_text at (library_callee l) s h = refl

-- a first argument that is no literal
pub no_format : (at : ℕ) (f : Form) (format : ℕ) (args : List Argument) (s : Scopes) → is_literal f ≡ false
    → printed at f format args s ≡ refuse Format format
no_format at (operand x) format args s h = refl
no_format at (place p n) format args s h = refl
no_format at (literal bs) format args s h = absurd (cc)
no_format at (size n) format args s h = refl
no_format at (sized x n) format args s h = refl
no_format at (callee n) format args s h = refl
no_format at (library_callee l) format args s h = refl

-- each conversion takes an argument
pub takes_one : (how : Shown) → is_taken (as_directive how) ≡ true
takes_one (Number how) = refl
takes_one Text = refl

-- a value that is shown as text, or isn't

abbrev text_if : (at : ℕ) → Scopes → Typed → Bool → Typing Print
text_if at s x k = if k then Ok (tree.text x.tree, s) else refuse Format at

pub text_made : (b : Bool) (at : ℕ) (s : Scopes) (x : Typed) (p : Print) → b ≡ is_char_pointer s x.value → b ≡ true → p ≡ tree.text x.tree
    → text_of_value at s x ≡ Ok (p, s)
text_made b at s x p is so made = ap (text_if at s x) (sym is ∙ so) ∙ ap (λ q. Ok (q, s)) (sym made)

pub text_refused : (b : Bool) (at : ℕ) (s : Scopes) (x : Typed) (r : Refusal) → b ≡ is_char_pointer s x.value → b ≡ false → r ≡ record { at = at; rule = Format }
    → text_of_value at s x ≡ Err r
text_refused b at s x r is so made = ap (text_if at s x) (sym is ∙ so) ∙ ap (λ q. Err q) (sym made)
