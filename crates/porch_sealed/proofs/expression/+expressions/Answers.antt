use Rattle.porch_sealing.specs.Numbers.{last_in}
use Rattle.porch_sealed.proofs.Lists.{all_expressions, all_prints, all_steps}
use Rattle.porch_sealed.proofs.expression.+expressions.Goals as goal

pub sealed_expressions-returns : goal.sealed_expressions-returns
sealed_expressions-returns t c =
    all_expressions (last_in c.args.numbers.now) c.args.es.now c.new-out.result c.put_expressions.new.out c.new-out.ensures c.in_ok-put_expressions.ensures

pub sealed_prints-returns : goal.sealed_prints-returns
sealed_prints-returns t c =
    all_prints (last_in c.args.numbers.now) c.args.pieces.now c.new-out.result c.put_prints.new.out c.new-out.ensures c.in_ok-put_prints.ensures

pub sealed_steps-returns : goal.sealed_steps-returns
sealed_steps-returns t c =
    all_steps (last_in c.args.numbers.now) c.args.steps.now c.new-out.result c.put_steps.new.out c.new-out.ensures c.in_ok-put_steps.ensures
