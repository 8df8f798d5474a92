-- What stands so far, and the parts that are left, are the whole.
use Rattle.std.proofs.Common.{◌≡◌, ◌++◌, map, drop}
use Rattle.porch_typed.specs.Views.{expression_of, print_of}
use Rattle.porch_check.specs.Sealing.{sealed, sealed_print}
use Rattle.porch_sealing.specs.Numbers.{last_in}
use Rattle.porch_sealed.specs.inside.Steps.{sealed_step, step_of}
use Rattle.porch_sealed.proofs.expression.+expressions.Given as goal

abbrev pub invariant-put_expressions-loop-e : goal.invariant-put_expressions-loop-e
invariant-put_expressions-loop-e l =
    map expression_of l.out ++ map (sealed (last_in l.fn.numbers)) (map expression_of (drop l.e-index l.es))
    ≡ map expression_of l.fn.out ++ map (sealed (last_in l.fn.numbers)) (map expression_of l.es)

abbrev pub invariant-put_steps-loop-operator : goal.invariant-put_steps-loop-operator
invariant-put_steps-loop-operator l =
    map step_of l.out ++ map (sealed_step (last_in l.fn.numbers)) (map step_of (drop l.operator-index l.steps))
    ≡ map step_of l.fn.out ++ map (sealed_step (last_in l.fn.numbers)) (map step_of l.steps)

abbrev pub invariant-put_prints-loop-piece : goal.invariant-put_prints-loop-piece
invariant-put_prints-loop-piece l =
    map print_of l.out ++ map (sealed_print (last_in l.fn.numbers)) (map print_of (drop l.piece-index l.pieces))
    ≡ map print_of l.fn.out ++ map (sealed_print (last_in l.fn.numbers)) (map print_of l.pieces)
