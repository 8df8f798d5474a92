use Rattle.std.proofs.Common.{ℕ, List, ◌∷◌, cond, Some, refl, ap, ◌∙◌}
use Rattle.std.specs.Str.{bytes_eq}
use Rattle.porch_scopes.proofs.Placed.{function_adds, functions_in}
use Rattle.porch_scopes.proofs.Inserted.{found_insert}
use Rattle.porch_scopes.proofs.numbers.Numbers.add_function.Goals as goal

pub returns-clause-added : goal.returns-clause-added
returns-clause-added c = λ r ps is.
    function_adds c.args.self.now _ r ps c.args.number
    (λ x qs. ap (λ es. functions_in es (x ∷ qs)) c.in_ok-insert.ensures.entries
    ∙ found_insert (λ k. k.items) (x ∷ qs) c.args.self.now.functions.entries c.args.types c.args.number
    ∙ ap (λ (ts : List ℕ). cond (bytes_eq (x ∷ qs) ts) (Some c.args.number) (functions_in c.args.self.now.functions.entries (x ∷ qs))) is)
    refl refl
