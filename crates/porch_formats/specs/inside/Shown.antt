-- Pieces that are shown, one after another.
use Rattle.std.specs.Prelude.{ℕ, Bool, true, false, if◌then◌else◌, List, [], ◌∷◌, ◌++◌, Ok}
use Rattle.std.specs.Option.{option_map_or}
use Rattle.porch_lex.specs.declared.refusal.Rule.TheVariants.{Format}
use Rattle.porch_typed.specs.Mirror.{Print, bytes, Prints, no_prints, with_print}
use Rattle.porch_typed.specs.Mirror as tree
use Rattle.porch_check.specs.Refusals.{refuse}
use Rattle.porch_check.specs.Scopes.{Scopes}
use Rattle.porch_check.specs.Operands.{Typed, Typing, go_on}
use Rattle.porch_check.specs.Calls.{Argument, Directive, byte, number, text, Mode, Completed, one, directives, is_char_pointer, printed_number, printed_text, with_byte}

abbrev pub is_bytes : Print → Bool
is_bytes (bytes bs) = true
is_bytes p = false

-- an argument as a directive that takes one shows it
abbrev pub printed_one : Directive → Argument → Scopes → Typing Print
printed_one (number how) a s = printed_number how a.at a.form s
printed_one text a s = printed_text a.at a.form s
printed_one (byte c) a s = refuse Format a.at

-- a value that isn't a literal, as text
abbrev pub text_of_value : (at : ℕ) → Scopes → Typed → Typing Print
text_of_value at s x = if is_char_pointer s x.value then Ok (tree.text x.tree, s) else refuse Format at

-- pieces, and behind them a run of bytes
abbrev pub with_run : List Print → List ℕ → List Print
with_run ps [] = ps
with_run ps (c ∷ cs) = ps ++ bytes (c ∷ cs) ∷ []

-- what a format is made of, where it has no other conversion
abbrev pub directives_of : Mode → List ℕ → List Directive
directives_of m cs = option_map_or (λ ds. ds) (directives m cs) []

-- directives behind what a byte completes
abbrev pub behind_completed : Completed → List Directive → List Directive
behind_completed (one d) ds = d ∷ ds
behind_completed c ds = ds

-- the same in front of what is shown later

abbrev pub put_run : List ℕ → Prints → Prints
put_run [] qs = qs
put_run (c ∷ cs) qs = with_byte c (put_run cs qs)

abbrev pub put_all : List Print → Prints → Prints
put_all [] qs = qs
put_all (p ∷ ps) qs = with_print p (put_all ps qs)

abbrev pub behind : List Print → List ℕ → Typing Prints → Typing Prints
behind ps run r = go_on r (λ qs s. Ok (put_all ps (put_run run qs), s))
