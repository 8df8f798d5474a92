-- Steps of calls of the library.
use Rattle.std.specs.Prelude.{ℕ, Bool, true, false, if◌then◌else◌, Ok}
use Rattle.porch_lex.specs.declared.refusal.Rule.TheVariants.{Mismatch}
use Rattle.porch_types.specs.Kinds.{int_type}
use Rattle.porch_typed.specs.Mirror.{Expression, put_character, put_text, release, discard}
use Rattle.porch_check.specs.Refusals.{refuse, and_then}
use Rattle.porch_check.specs.Scopes.{Scopes}
use Rattle.porch_check.specs.Operands.{Typed, typed_as, nothing, Form, operand, size, Typing, go_on, value_of, fitted}
use Rattle.porch_check.specs.Calls.{is_char_pointer, int_form, released}

abbrev pub text_of_value : (at : ℕ) → Typed → Scopes → Typing Form
text_of_value at x s = if is_char_pointer s x.value then Ok (int_form (put_text x.tree), s) else refuse Mismatch at

abbrev pub character_of_value : (at : ℕ) → Typed → Scopes → Typing Form
character_of_value at x s = and_then (fitted at int_type x s) (λ e. Ok (int_form (put_character e), s))

abbrev pub put_character_of : (at : ℕ) → Form → Scopes → Typing Form
put_character_of at f s = go_on (value_of at f s) (character_of_value at)

abbrev pub freed : (at : ℕ) → Form → Scopes → Typing Form
freed at f s = go_on (value_of at f s) (λ x s. and_then (released at x x.value) (λ f. Ok (f, s)))

-- what is freed, or what is null anyway
abbrev pub freed_tree : Expression → (is_pointer : Bool) → Expression
freed_tree e true = release e
freed_tree e false = discard e

abbrev pub freed_form : Expression → (is_pointer : Bool) → Form
freed_form e is_pointer = operand (typed_as (freed_tree e is_pointer) nothing)

-- a size without a count
abbrev pub is_bare_size : Form → Bool
is_bare_size (size x) = true
is_bare_size f = false
