use Rattle.std.proofs.Common.{ap, ◌∙◌}
use Rattle.porch_scopes.specs.Bodies.{body_number}
use Rattle.porch_scopes.proofs.bodies.Bodies.find.Goals as goal

pub returns : goal.returns
returns c =
    c.copied.ensures ∙ c.get.ensures.value ∙ c.self.invariant.same c.args.name.now ∙ ap (body_number c.args.name.now) c.self.view_is
