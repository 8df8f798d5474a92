-- What is shown from here on, with the pieces so far, is what the whole format shows.
use Rattle.std.proofs.Common.{◌≡◌, drop, is_some, true}
use Rattle.porch_check.specs.Calls.{directives, in_text, prints_of}
use Rattle.porch_literals.specs.Directives.{as_mode}
use Rattle.porch_arguments.specs.Views.{left}
use Rattle.porch_formats.specs.inside.Shown.{directives_of}
use Rattle.porch_formats.specs.inside.Showing.{shows}
use Rattle.porch_formats.proofs.showing.show_all.Given as goal

abbrev pub invariant-loop-byte : goal.invariant-loop-byte
invariant-loop-byte g l = record {
  known : is_some (directives (as_mode l.mode) (drop l.byte-index l.format)) ≡ true;
  same :
      shows l.pieces (left l.turned) (directives_of (as_mode l.mode) (drop l.byte-index l.format)) (g.T.Table.scopes l.table)
      ≡ prints_of (directives_of in_text l.format) (left l.fn.turned) (g.T.Table.scopes l.fn.table);
}
