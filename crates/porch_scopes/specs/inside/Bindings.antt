-- Bindings in scopes, which stand with the innermost first and in each with the newest first, and the table that finds them.
use Rattle.std.specs.Prelude.{◌≡◌, ℕ, if◌then◌else◌, List, [], ◌∷◌, length, Option, Some, None}
use Rattle.std.specs.Option.{option_map}
use Rattle.std.specs.Borrow.{Bor}
use Rattle.std.specs.Map.{lookup}
use Rattle.std.specs.Str.{bytes_eq}
use Rattle.porch_check.specs.Scopes.{or_else}
use Rattle.porch_scopes.specs.declared.bindings.Binding as b
use Rattle.porch_scopes.specs.declared.bindings.Found as f

module _ {V : Type 0} where
  abbrev pub joined : Option (Option (f.Found V)) → Option (f.Found V)
  joined None = None
  joined (Some x) = x

  -- what the table gives
  abbrev pub at : List ℕ → List (Bor (List ℕ) × Option (f.Found V)) → Option (f.Found V)
  at x es = joined (lookup (λ k. bytes_eq x k.now) es)

  -- the newest binding of a name in a scope
  abbrev pub first_of : List ℕ → List (b.Binding V) → Option V
  first_of x [] = None
  first_of x (n ∷ ns) = if bytes_eq x n.name.now then Some n.value else first_of x ns

  abbrev pub in_depth : ℕ → V → f.Found V
  in_depth n v = record { depth = n; value = v }

  -- and in all
  abbrev pub found_in : List ℕ → List (List (b.Binding V)) → Option (f.Found V)
  found_in x [] = None
  found_in x (l ∷ ls) = or_else (option_map (in_depth (length ls)) (first_of x l)) (found_in x ls)

  -- each binding tells what it hides
  abbrev pub AreHiding : List (b.Binding V) → List (List (b.Binding V)) → Type 0
  AreHiding [] ls = Unit
  AreHiding (n ∷ ns) ls = (n.hidden ≡ found_in n.name.now (ns ∷ ls)) × AreHiding ns ls

  abbrev pub AllHiding : List (List (b.Binding V)) → Type 0
  AllHiding [] = Unit
  AllHiding (l ∷ ls) = AreHiding l ls × AllHiding ls

  pub record Finds (es : List (Bor (List ℕ) × Option (f.Found V))) (ls : List (List (b.Binding V))) : Type 0 where
    pub same : (x : List ℕ) → at x es ≡ found_in x ls
    pub hiding : AllHiding ls

  -- the table finds the bindings of this scope, and others around it
  abbrev pub FindsSome : List (Bor (List ℕ) × Option (f.Found V)) → List (b.Binding V) → Type 0
  FindsSome es l = (ls : List (List (b.Binding V))) × Finds es (l ∷ ls)
