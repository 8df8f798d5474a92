use Rattle.std.proofs.Common.{arith}
use Rattle.std.proofs.lemmas.Grind.{common_steps}
use Rattle.porch_objects.specs.Meaning.{without_input}
use Rattle.porch_steps.proofs.Steps.{ended}
use Rattle.porch_steps.proofs.run.Run.proceed.Goals as goal

pub returns-else-self-commands : goal.returns-else-self-commands
returns-else-self-commands c = record {
  steps = ended c.args.flat.now (without_input c.args.widths) c.args.self.now c.give_back.new.self c.give_back.result c.requires.running
      (rw (← c.code-commands.ensures) (grind (arith, common_steps))) c.give_back.ensures.led;
}
