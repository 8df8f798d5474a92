-- Functions by name in a table are those of the list.
use Rattle.std.proofs.Common.{◌≡◌, ℕ, Bool, true, false, List, [], ◌∷◌, ◌++◌, refl, ap, ◌∙◌, Bor}
use Rattle.std.specs.Map.{lookup}
use Rattle.std.specs.Str.{bytes_eq}
use Rattle.std.proofs.lemmas.List.{map-append}
use Rattle.porch_check.specs.Scopes.{of_name}
use Rattle.porch_scopes.specs.Views.{declared_of}

abbrev Entries : Type 0
Entries = List (Bor (List ℕ) × ℕ)

first : (x : List ℕ) (e : Bor (List ℕ) × ℕ) (es : Entries) (b : Bool) → bytes_eq x e.0.now ≡ b
    → of_name x (declared_of es) ≡ lookup (λ k. bytes_eq x k.now) es
    → of_name x (declared_of (e ∷ es)) ≡ lookup (λ k. bytes_eq x k.now) (e ∷ es)
first x e es true h more = rw h refl
first x e es false h more = rw h more

pub declared_is : (x : List ℕ) (es : Entries) → of_name x (declared_of es) ≡ lookup (λ k. bytes_eq x k.now) es
declared_is x [] = refl
declared_is x (e ∷ es) = first x e es (bytes_eq x e.0.now) refl (declared_is x es)

pub declared_more : (es fs : Entries) (ds : List (List ℕ × ℕ)) (k : Bor (List ℕ)) (v : ℕ) → declared_of es ≡ ds
    → fs ≡ es ++ (k, v) ∷ [] → declared_of fs ≡ ds ++ (k.now, v) ∷ []
declared_more es fs ds k v same more =
    ap declared_of more ∙ map-append (λ (e : Bor (List ℕ) × ℕ). (e.0.now, e.1)) es ((k, v) ∷ []) ∙ ap (λ xs. xs ++ (k.now, v) ∷ []) same
