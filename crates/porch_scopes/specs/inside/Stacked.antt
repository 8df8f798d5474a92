-- The tables of names and of tags find what scopes bind.
use Rattle.std.specs.Prelude.{ℕ, nat_eq, if◌then◌else◌, List, ◌∷◌, map, reverse, Option, Some, None}
use Rattle.std.specs.Borrow.{Bor}
use Rattle.porch_scopes.specs.declared.meaning.Meaning as code_meaning
use Rattle.porch_scopes.specs.declared.meaning.Tag as code_tag
use Rattle.porch_scopes.specs.declared.bindings.Binding as b
use Rattle.porch_scopes.specs.declared.bindings.Found as f
use Rattle.porch_scopes.specs.declared.scope.Scope as code_scope
use Rattle.porch_scopes.specs.inside.Bindings.{Finds}

abbrev pub name_layers : List code_scope.Scope → List (List (b.Binding code_meaning.Meaning))
name_layers ss = map (λ (s : code_scope.Scope). reverse s.names.items) ss

abbrev pub tag_layers : List code_scope.Scope → List (List (b.Binding code_tag.Tag))
tag_layers ss = map (λ (s : code_scope.Scope). reverse s.tags.items) ss

pub record FindsAll
    (inner : code_scope.Scope)
    (outer : List code_scope.Scope)
    (names : List (Bor (List ℕ) × Option (f.Found code_meaning.Meaning)))
    (tags : List (Bor (List ℕ) × Option (f.Found code_tag.Tag))) : Type 0 where
  pub finds_names : Finds names (name_layers (inner ∷ reverse outer))
  pub finds_tags : Finds tags (tag_layers (inner ∷ reverse outer))

-- what was found, where so many scopes stand around the one that binds it
abbrev pub at_depth : {V : Type 0} → ℕ → Option (f.Found V) → Option V
at_depth n None = None
at_depth n (Some x) = if nat_eq x.depth n then Some x.value else None

abbrev pub value_in : {V : Type 0} → Option (f.Found V) → Option V
value_in None = None
value_in (Some x) = Some x.value
