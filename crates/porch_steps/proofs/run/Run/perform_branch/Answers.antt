use Rattle.porch_steps.specs.declared.effect.Effect.TheVariants.{Go}
use Rattle.porch_steps.proofs.Steps.{obeyed}
use Rattle.porch_steps.proofs.run.Run.perform_branch.Goals as goal

pub returns-in-Some : goal.returns-in-Some
returns-in-Some c = record { done = λ under. obeyed c.args.flat.now under c.args.self.now c.go.new.self _ (Go c.in-Some.place) _ (c.in-Some.ensures under) c.go.ensures.led }
