-- Runs that are ordered, as the code has them.
use Rattle.std.specs.Prelude.{ℕ, ◌≡◌, List}
use Rattle.std.specs.declared.option.Option.{Option}
use Rattle.std.specs.declared.option.Option.TheVariants.{Some, None}
use Rattle.porch_words.specs.Orders.{Order, exec}
use Rattle.porch_cli.specs.declared.words.RunOrdered.{RunOrdered}
use Rattle.porch_cli.specs.Words.{RunOrder, IsExec}

-- the run in an order
abbrev pub run_of : Order → Option RunOrder
run_of (exec name limits) = Some (record { layout = name; limits = limits })
run_of _ = None

abbrev pub order_of : RunOrdered → RunOrder
order_of run = record { layout = run.layout.now; limits = run.limits }

abbrev pub run_seen : Option RunOrdered → Option RunOrder
run_seen None = None
run_seen (Some run) = Some (order_of run)

-- the words order this run, or none
abbrev pub IsOrderedBy : List (List ℕ) → Option RunOrdered → Type 0
IsOrderedBy words None = (o : RunOrder) → IsExec words o → ⊥
IsOrderedBy words (Some run) = IsExec words (order_of run)
