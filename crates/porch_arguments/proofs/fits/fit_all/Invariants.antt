-- What became of the values so far, with what becomes of those that are left behind it.
use Rattle.std.proofs.Common.{◌≡◌, map, drop}
use Rattle.std.specs.Prelude.{reverse}
use Rattle.porch_typed.specs.Views.{expression_of}
use Rattle.porch_check.specs.Calls.{fitted_all}
use Rattle.porch_arguments.specs.Views.{as_valued}
use Rattle.porch_arguments.proofs.Fitted.{behind}
use Rattle.porch_arguments.proofs.fits.fit_all.Given as goal

abbrev pub invariant-loop-param : goal.invariant-loop-param
invariant-loop-param g l =
    behind (map expression_of l.fitted)
    (fitted_all (drop l.param-index l.params) (map as_valued (reverse l.turned)) (g.T.Table.scopes l.table))
    ≡ fitted_all l.params (map as_valued l.fn.values) (g.T.Table.scopes l.table)
