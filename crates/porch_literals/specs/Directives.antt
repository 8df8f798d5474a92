-- What the code's directives are in the definitions.
use Rattle.porch_check.specs.Calls.{Directive, byte, number, text, Mode, in_text, behind_percent, behind_l, Completed, one, not_yet, none_such}
use Rattle.porch_literals.specs.declared.directive.Mode as code_mode
use Rattle.porch_literals.specs.declared.directive.Mode.TheVariants as mode
use Rattle.porch_literals.specs.declared.directive.Shown as code_shown
use Rattle.porch_literals.specs.declared.directive.Shown.TheVariants as shown
use Rattle.porch_literals.specs.declared.directive.Completed as code_completed
use Rattle.porch_literals.specs.declared.directive.Completed.TheVariants as completed

abbrev pub as_mode : code_mode.Mode → Mode
as_mode mode.Text = in_text
as_mode mode.Percent = behind_percent
as_mode mode.Long = behind_l

abbrev pub as_directive : code_shown.Shown → Directive
as_directive (shown.Number how) = number how
as_directive shown.Text = text

abbrev pub as_completed : code_completed.Completed → Completed
as_completed (completed.Byte c) = one (byte c)
as_completed (completed.Taken s) = one (as_directive s)
as_completed (completed.NotYet m) = not_yet (as_mode m)
as_completed completed.NoneSuch = none_such
