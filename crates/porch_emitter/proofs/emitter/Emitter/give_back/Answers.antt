use Rattle.porch_emitter.proofs.MadeSame.{same_made}
use Rattle.porch_emitter.proofs.emitter.Emitter.give_back.Goals as goal

pub returns : goal.returns
returns c = λ used e. same_made _ _ _ _ _ _ _ (c.give_back.ensures.used used e) c.give_back.ensures.most
