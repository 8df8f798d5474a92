-- Names and tags that are bound one after another.
use Rattle.std.specs.Prelude.{List, [], ◌∷◌}
use Rattle.porch_scopes.specs.declared.meaning.Meaning as code_meaning
use Rattle.porch_scopes.specs.declared.meaning.Tag as code_tag
use Rattle.porch_scopes.specs.declared.bindings.Binding as b
use Rattle.porch_scopes.specs.Views.{as_meaning, as_tag}
use Rattle.porch_scopes.specs.Stack.{ScopeStack, binds, binds_tag}

abbrev pub binds_names : List (b.Binding code_meaning.Meaning) → ScopeStack → ScopeStack
binds_names [] s = s
binds_names (n ∷ ns) s = binds_names ns (binds n.name.now (as_meaning n.value) s)

abbrev pub binds_tags : List (b.Binding code_tag.Tag) → ScopeStack → ScopeStack
binds_tags [] s = s
binds_tags (t ∷ ts) s = binds_tags ts (binds_tag (as_tag t.name.now t.value) s)
