-- Calls that no rule of a function of the library fits.
use Rattle.std.proofs.Common.{◌≡◌, ℕ, false, List, [], ◌∷◌, refl}
use Rattle.porch_lex.specs.declared.refusal.Rule.TheVariants.{Mismatch}
use Rattle.porch_check.specs.Refusals.{refuse}
use Rattle.porch_check.specs.Shapes.{Shape, void, whole, pointer, array, structure, function}
use Rattle.porch_check.specs.Scopes.{Scopes, of_puts, of_putchar, of_malloc, of_calloc, of_free}
use Rattle.porch_check.specs.Operands.{Form, operand, place, literal, size, sized, callee, library_callee, go_on, value_of}
use Rattle.porch_check.specs.Calls.{Argument, call_of, calloc_form, puts_form, library_call}
use Rattle.porch_arguments.specs.Literals.{is_literal}
use Rattle.porch_calls.specs.inside.Signatures.{is_function}
use Rattle.porch_calls.specs.inside.Counts.{is_one, is_two}
use Rattle.porch_calls.specs.inside.Steps.{text_of_value, is_bare_size}

pub not_one_text : (at : ℕ) (args : List Argument) (s : Scopes) → is_one args ≡ false → library_call of_puts at args s ≡ refuse Mismatch at
not_one_text at [] s h = refl
not_one_text at (a ∷ []) s h = absurd (cc)
not_one_text at (a ∷ b ∷ args) s h = refl

pub not_one_character : (at : ℕ) (args : List Argument) (s : Scopes) → is_one args ≡ false → library_call of_putchar at args s ≡ refuse Mismatch at
not_one_character at [] s h = refl
not_one_character at (a ∷ []) s h = absurd (cc)
not_one_character at (a ∷ b ∷ args) s h = refl

pub not_one_size : (at : ℕ) (args : List Argument) (s : Scopes) → is_one args ≡ false → library_call of_malloc at args s ≡ refuse Mismatch at
not_one_size at [] s h = refl
not_one_size at (a ∷ []) s h = absurd (cc)
not_one_size at (a ∷ b ∷ args) s h = refl

pub not_one_pointer : (at : ℕ) (args : List Argument) (s : Scopes) → is_one args ≡ false → library_call of_free at args s ≡ refuse Mismatch at
not_one_pointer at [] s h = refl
not_one_pointer at (a ∷ []) s h = absurd (cc)
not_one_pointer at (a ∷ b ∷ args) s h = refl

pub not_two_sizes : (at : ℕ) (args : List Argument) (s : Scopes) → is_two args ≡ false → library_call of_calloc at args s ≡ refuse Mismatch at
not_two_sizes at [] s h = refl
not_two_sizes at (a ∷ []) s h = refl
not_two_sizes at (a ∷ b ∷ []) s h = absurd (cc)
not_two_sizes at (a ∷ b ∷ c ∷ args) s h = refl

-- `puts` of what is no literal
pub other_text : (at : ℕ) (f : Form) (s : Scopes) → is_literal f ≡ false → puts_form at f s ≡ go_on (value_of at f s) (text_of_value at)
other_text at (operand x) s h = refl
other_text at (place p n) s h = refl
other_text at (literal bs) s h = absurd (cc)
other_text at (size n) s h = refl
other_text at (sized x n) s h = refl
other_text at (callee n) s h = refl
other_text at (library_callee l) s h = refl

-- `calloc` of what is no size
pub no_size : (at : ℕ) (a : Argument) (f : Form) (s : Scopes) → is_bare_size f ≡ false → calloc_form at a f s ≡ refuse Mismatch at
no_size at a (operand x) s h = refl
no_size at a (place p n) s h = refl
no_size at a (literal bs) s h = refl
no_size at a (size n) s h = absurd (cc)
no_size at a (sized x n) s h = refl
no_size at a (callee n) s h = refl
no_size at a (library_callee l) s h = refl

-- a call of what is no function
pub no_function : (k at : ℕ) (x : Shape) (args : List Argument) (s : Scopes) → is_function x ≡ false → call_of k at x args s ≡ refuse Mismatch at
no_function k at void args s h = refl
no_function k at (whole kind) args s h = refl
no_function k at (pointer to) args s h = refl
no_function k at (array of count) args s h = refl
no_function k at (structure number) args s h = refl
no_function k at (function result params) args s h = absurd (cc)
