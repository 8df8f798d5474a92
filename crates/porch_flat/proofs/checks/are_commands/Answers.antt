use Rattle.std.proofs.Common.{arith, rules}
use Rattle.porch_flat.proofs.Rules.{commands_next}
use Rattle.porch_flat.proofs.checks.are_commands.Goals as goal

pub loop-at-preserved : goal.loop-at-preserved
loop-at-preserved c =
    let commands = c.as_slice-commands in
    commands_next c.args.function.now c.loop-at.at commands.result.now _ commands.ensures c.loop-at.invariant (omega arith) (c.is_command.ensures.0 (search rules))
