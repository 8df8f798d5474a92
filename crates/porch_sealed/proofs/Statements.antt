-- Lists of statements, and of what stands in the braces of a switch.
use Rattle.std.proofs.Common.{◌≡◌, ℕ, List, [], ◌∷◌, ◌++◌, map, refl, ap, ◌∙◌}
use Rattle.porch_typed.specs.declared.typed.Statement as code_statement
use Rattle.porch_typed.specs.declared.typed.SwitchEntry as code_entry
use Rattle.porch_typed.specs.Mirror.{Statement, with_statement, SwitchEntry, with_entry}
use Rattle.porch_typed.specs.Views.{statement_of, statements_of, entry_of, entries_of}
use Rattle.porch_check.specs.Sealing.{sealed_statement, sealed_statements, sealed_entry, sealed_entries}

all_are : (f : ℕ → ℕ) (ss : List Statement) → statements_of (map (sealed_statement f) ss) ≡ sealed_statements f (statements_of ss)
all_are f [] = refl
all_are f (s ∷ ss) = ap (with_statement (sealed_statement f s)) (all_are f ss)

pub all_statements : (f : ℕ → ℕ) (ss out new : List code_statement.Statement) → out ≡ []
    → map statement_of new ≡ map statement_of out ++ map (sealed_statement f) (map statement_of ss)
    → statements_of (map statement_of new) ≡ sealed_statements f (statements_of (map statement_of ss))
all_statements f ss out new none put =
    ap statements_of (put ∙ ap (λ xs. map statement_of xs ++ map (sealed_statement f) (map statement_of ss)) none)
    ∙ all_are f (map statement_of ss)

entries_are : (f : ℕ → ℕ) (xs : List SwitchEntry) → entries_of (map (sealed_entry f) xs) ≡ sealed_entries f (entries_of xs)
entries_are f [] = refl
entries_are f (x ∷ xs) = ap (with_entry (sealed_entry f x)) (entries_are f xs)

pub all_entries : (f : ℕ → ℕ) (xs out new : List code_entry.SwitchEntry) → out ≡ []
    → map entry_of new ≡ map entry_of out ++ map (sealed_entry f) (map entry_of xs)
    → entries_of (map entry_of new) ≡ sealed_entries f (entries_of (map entry_of xs))
all_entries f xs out new none put =
    ap entries_of (put ∙ ap (λ ys. map entry_of ys ++ map (sealed_entry f) (map entry_of xs)) none)
    ∙ entries_are f (map entry_of xs)
