-- Scopes in scopes.
use Rattle.std.specs.Prelude.{ℕ, List, ◌∷◌}
use Rattle.porch_check.specs.Scopes.{Meaning, Tag, Scope}

pub record ScopeStack : Type 0 where
  pub inner : Scope
  -- the innermost of the others first
  pub outer : List Scope

abbrev pub binds : List ℕ → Meaning → ScopeStack → ScopeStack
binds x m s = record { inner = record s.inner { names = (x, m) ∷ s.inner.names }; outer = s.outer }

abbrev pub binds_tag : Tag → ScopeStack → ScopeStack
binds_tag t s = record { inner = record s.inner { tags = t ∷ s.inner.tags }; outer = s.outer }

abbrev pub enters : Scope → ScopeStack → ScopeStack
enters inner s = record { inner = inner; outer = s.inner ∷ s.outer }
