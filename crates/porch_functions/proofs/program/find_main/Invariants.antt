-- It is among the functions that are left, if it is among all.
use Rattle.std.proofs.Common.{◌≡◌, ◌+◌, map, drop}
use Rattle.std.specs.Option.{option_map}
use Rattle.porch_typed.specs.Views.{function_of}
use Rattle.porch_check.specs.Units.{main_of}
use Rattle.porch_functions.proofs.program.find_main.Given as goal

abbrev pub invariant-loop-i : goal.invariant-loop-i
invariant-loop-i l =
    main_of (map function_of l.functions) ≡ option_map (λ n. l.i + n) (main_of (map function_of (drop l.i l.functions)))
