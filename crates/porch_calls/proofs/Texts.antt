-- Values that `puts` puts, or doesn't.
use Rattle.std.proofs.Common.{◌≡◌, ℕ, Bool, true, false, if◌then◌else◌, Ok, Err, sym, ap, ◌∙◌}
use Rattle.porch_lex.specs.declared.refusal.Refusal.{Refusal}
use Rattle.porch_lex.specs.declared.refusal.Rule.TheVariants.{Mismatch}
use Rattle.porch_typed.specs.Mirror.{put_text}
use Rattle.porch_check.specs.Refusals.{refuse}
use Rattle.porch_check.specs.Scopes.{Scopes}
use Rattle.porch_check.specs.Operands.{Form, Typed, Typing}
use Rattle.porch_check.specs.Calls.{is_char_pointer, int_form}
use Rattle.porch_calls.specs.inside.Steps.{text_of_value}

abbrev text_if : (at : ℕ) → Scopes → Typed → Bool → Typing Form
text_if at s x k = if k then Ok (int_form (put_text x.tree), s) else refuse Mismatch at

pub text_made : (b : Bool) (at : ℕ) (s : Scopes) (x : Typed) (f : Form) → b ≡ is_char_pointer s x.value → b ≡ true → f ≡ int_form (put_text x.tree)
    → text_of_value at x s ≡ Ok (f, s)
text_made b at s x f is so made = ap (text_if at s x) (sym is ∙ so) ∙ ap (λ q. Ok (q, s)) (sym made)

pub text_refused : (b : Bool) (at : ℕ) (s : Scopes) (x : Typed) (r : Refusal) → b ≡ is_char_pointer s x.value → b ≡ false → r ≡ record { at = at; rule = Mismatch }
    → text_of_value at x s ≡ Err r
text_refused b at s x r is so made = ap (text_if at s x) (sym is ∙ so) ∙ ap (λ q. Err q) (sym made)
