use Rattle.std.proofs.Common.{◌∙◌, ap, ℕ, Option}
use Rattle.porch_emitter.specs.Made.{and_taken}
use Rattle.porch_emitter.proofs.emitter.Emitter.let_go.Goals as goal

pub returns-in-Some : goal.returns-in-Some
returns-in-Some c = λ used e. c.give_back.ensures used (e ∙ ap (λ (t : Option ℕ). and_taken t used) c.in-Some.is)
