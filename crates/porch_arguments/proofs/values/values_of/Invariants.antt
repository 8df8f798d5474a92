-- The values so far, with those of the arguments that are left behind them, are the values of all.
use Rattle.std.proofs.Common.{◌≡◌, map, length}
use Rattle.porch_check.specs.Calls.{argument_values}
use Rattle.porch_arguments.specs.Views.{as_valued, left}
use Rattle.porch_arguments.proofs.Passed.{behind}
use Rattle.porch_arguments.proofs.values.values_of.Given as goal

abbrev pub invariant-arguments : goal.invariant-arguments
invariant-arguments g l =
    behind (map as_valued l.values) (argument_values (left l.turned) (g.T.Table.scopes l.table))
    ≡ argument_values (left l.fn.turned) (g.T.Table.scopes l.fn.table)

abbrev pub decreases-arguments : goal.decreases-arguments
decreases-arguments g l = length l.turned
