-- What is shown from some place of a format on.
use Rattle.std.specs.Prelude.{List, map}
use Rattle.porch_typed.specs.Mirror.{Prints}
use Rattle.porch_typed.specs.Views.{print_of}
use Rattle.porch_check.specs.Scopes.{Scopes}
use Rattle.porch_check.specs.Operands.{Typing}
use Rattle.porch_check.specs.Calls.{Argument, Directive, prints_of}
use Rattle.porch_formats.specs.declared.pieces.Pieces as code_pieces
use Rattle.porch_formats.specs.inside.Shown.{behind}

-- with the pieces so far in front
abbrev pub shows : code_pieces.Pieces → List Argument → List Directive → Scopes → Typing Prints
shows w args ds s = behind (map print_of w.prints) w.run (prints_of ds args s)
