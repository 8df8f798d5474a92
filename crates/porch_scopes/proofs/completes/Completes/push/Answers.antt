use Rattle.std.proofs.Common.{◌++◌, ◌∷◌, [], ap, ◌∙◌}
use Rattle.porch_scopes.proofs.Completed.{known_more}
use Rattle.porch_scopes.proofs.completes.Completes.push.Goals as goal

pub invariant_of-self-2 : goal.invariant_of-self-2
invariant_of-self-2 c =
    known_more c.self.inside.tags.items c.push_reserved.new.self.items c.self.inside.known.keys c.insert.new.self.keys c.args.tag
    (c.push_reserved.ensures.items ∙ ap (λ ts. ts ++ c.args.tag ∷ []) c.reserve.ensures.items)
    c.in_ok-insert.ensures.keys c.self.invariant
