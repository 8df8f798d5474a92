use Rattle.std.proofs.Common.{arith}
use Rattle.porch_flat.proofs.Rules.{function_from, function_to}
use Rattle.porch_flat.proofs.checks.is_function.Goals as goal

pub returns : goal.returns
returns c =
    let f = c.args.function.now in
    (λ t. function_from f (omega arith) (c.are_commands.ensures.0 t), λ is. c.are_commands.ensures.1 (function_to f is))
