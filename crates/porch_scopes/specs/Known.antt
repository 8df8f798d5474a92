-- What is known at a place of the text.
use Rattle.std.specs.Prelude.{map}
use Rattle.porch_typed.specs.Views.{function_of}
use Rattle.porch_check.specs.Scopes.{Scopes}
use Rattle.porch_scopes.specs.declared.scopes.Scopes as code_scopes

abbrev pub scopes_of : code_scopes.Scopes → Scopes
scopes_of s =
    record {
      shapes = s.shapes;
      inner = s.stack.inner;
      outer = s.stack.outer;
      declared = s.declared;
      variables = s.variables;
      globals = s.globals;
      entries = s.entries;
      functions = map function_of s.functions;
    }
