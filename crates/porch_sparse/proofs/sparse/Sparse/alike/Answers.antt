use Rattle.std.proofs.Common.{List, [], ◌∷◌, ◌++◌, ap, ◌∙◌}
use Rattle.porch_sparse.proofs.Lists.{all_one}
use Rattle.porch_sparse.proofs.Written.{value_of_one}
use Rattle.porch_sparse.proofs.sparse.Sparse.alike.Goals as goal

pub returns : goal.returns
returns g c =
    let value = c.args.value in
    let one = c.in_ok-push.ensures.items ∙ ap (λ (vs : List g.row.V.Denot). vs ++ value ∷ []) c.in_ok-pattern.ensures.items in
    all_one _ value 0 c.args.len (λ i. value_of_one value c.push.new.self.items c.new.result i one c.new.ensures.empty)
