-- What stands so far, and the functions that are left, are the whole.
use Rattle.std.proofs.Common.{◌≡◌, ◌++◌, map, drop}
use Rattle.porch_typed.specs.Views.{function_of}
use Rattle.porch_check.specs.Sealing.{sealed_function}
use Rattle.porch_sealing.specs.Numbers.{last_in}
use Rattle.porch_sealed.proofs.program.put_functions.Given as goal

abbrev pub invariant-loop-function : goal.invariant-loop-function
invariant-loop-function l =
    map function_of l.out ++ map (sealed_function (last_in l.fn.numbers)) (map function_of (drop l.function-index l.functions))
    ≡ map function_of l.fn.out ++ map (sealed_function (last_in l.fn.numbers)) (map function_of l.functions)
