use Rattle.std.proofs.Common.{[], ◌∷◌, ◌++◌, List, ◌∙◌, ap}
use Rattle.porch_edge.specs.declared.memory_calls.Call.{Call}
use Rattle.porch_edge.proofs.memory_calls.note.Goals as goal

pub returns-clause-ok : goal.returns-clause-ok
returns-clause-ok c =
    let call : Call = record { file = c.args.file; change = c.args.change; before = c.new-before.result; moment = c.args.moment } in
    record { before = c.new-before.result; kept = c.append.ensures ∙ ap (λ (l : List Call). l ++ call ∷ []) c.reserve.ensures.items }
