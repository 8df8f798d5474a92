use Rattle.std.proofs.Common.{subst}
use Rattle.std.specs.Int.{w128}
use Rattle.std.proofs.lemmas.Int.{to_z-of_z}
use Rattle.porch_live.specs.declared.value.Value.TheVariants.{Number}
use Rattle.porch_steps.specs.declared.effect.Effect.TheVariants.{Become}
use Rattle.porch_steps.specs.inside.Effects.{Led}
use Rattle.porch_steps.proofs.run.Run.give_number.Goals as goal

pub returns : goal.returns
returns c =
    record {
      led = subst (λ z. Led c.args.self.now c.give_value.new.self (Become c.args.variable (Number z)) c.give_value.result)
          (to_z-of_z w128 c.args.number c.ranges.number) c.give_value.ensures.led;
    }
