-- Calls of printf, from the number of arguments that the format takes on.
use Rattle.std.specs.Prelude.{ℕ, nat_eq, if◌then◌else◌, List, length, Ok}
use Rattle.porch_lex.specs.declared.refusal.Rule.TheVariants.{Format}
use Rattle.porch_typed.specs.Mirror.{print}
use Rattle.porch_check.specs.Refusals.{refuse}
use Rattle.porch_check.specs.Scopes.{Scopes}
use Rattle.porch_check.specs.Operands.{Form, Typing, go_on}
use Rattle.porch_check.specs.Calls.{Argument, in_text, prints_of, int_form}
use Rattle.porch_formats.specs.inside.Shown.{directives_of}

-- a format without another conversion takes so many
abbrev pub counted : (at : ℕ) → (format : List ℕ) → (count : ℕ) → List Argument → Scopes → Typing Form
counted at format n args s =
    if nat_eq n (length args)
    then go_on (prints_of (directives_of in_text format) args s) (λ ps s. Ok (int_form (print ps), s))
    else refuse Format at
