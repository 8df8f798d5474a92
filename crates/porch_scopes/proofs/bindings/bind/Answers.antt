use Rattle.std.proofs.Common.{◌++◌, ◌∷◌, [], ap, ◌∙◌}
use Rattle.porch_scopes.proofs.Bound.{bound_more}
use Rattle.porch_scopes.proofs.bindings.bind.Goals as goal

pub returns-clause-finds : goal.returns-clause-finds
returns-clause-finds g c = λ ls deep finds.
    bound_more c.args.known.now.entries c.insert.new.self.entries c.args.layer.now.items c.push_reserved.new.self.items ls
    (record { name = c.args.name; value = c.args.value; hidden = c.find-hidden.result }) c.args.depth deep
    c.find-hidden.ensures c.in_ok-insert.ensures.entries
    (c.push_reserved.ensures.items ∙ ap (λ xs. xs ++ record { name = c.args.name; value = c.args.value; hidden = c.find-hidden.result } ∷ []) c.reserve.ensures.items)
    finds
