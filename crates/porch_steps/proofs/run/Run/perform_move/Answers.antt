use Rattle.std.proofs.Common.{rules, subst}
use Rattle.std.specs.Int.{w128}
use Rattle.std.proofs.lemmas.Int.{to_z-of_z}
use Rattle.porch_live.specs.declared.value.Value.TheVariants.{Number}
use Rattle.porch_steps.specs.declared.effect.Effect.TheVariants.{Become}
use Rattle.porch_steps.specs.inside.Effects.{Led}
use Rattle.porch_steps.proofs.Steps.{obeyed}
use Rattle.porch_steps.proofs.run.Run.perform_move.Goals as goal

pub returns-in-Some : goal.returns-in-Some
returns-in-Some c =
    let effect = Become c.args.variable (Number c.in-Some.number) in
    let led : Led c.args.self.now c.give_number.new.self effect c.give_number.result =
    subst (λ z. Led c.args.self.now c.give_number.new.self (Become c.args.variable (Number z)) c.give_number.result) (to_z-of_z w128 c.in-Some.number (search rules)) c.give_number.ensures.led in
    record { done = λ under. obeyed c.args.flat.now under c.args.self.now c.give_number.new.self _ effect _ (c.in-Some.ensures under) led }
