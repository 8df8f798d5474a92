use Rattle.std.proofs.Common.{◌++◌, ◌∷◌, [], length, ap, ◌∙◌}
use Rattle.porch_scopes.proofs.OneMoreBody.{body_more}
use Rattle.porch_scopes.proofs.bodies.Bodies.push.Goals as goal

pub invariant_of-self-2 : goal.invariant_of-self-2
invariant_of-self-2 c =
    body_more c.self.inside.names.items c.push_reserved.new.self.items c.self.inside.numbers.entries c.note.new.numbers.entries
    c.args.name c.in_ok-number.number (c.in_ok-number.ensures ∙ ap length c.deref.ensures.value)
    (c.push_reserved.ensures.items ∙ ap (λ ts. ts ++ c.args.name ∷ []) c.reserve.ensures.items)
    c.in_ok-note.ensures.noted c.self.invariant
