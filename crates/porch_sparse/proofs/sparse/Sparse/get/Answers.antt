use Rattle.std.proofs.Common.{List, Option, Some, sym, ap, ◌∙◌, arith}
use Rattle.porch_sparse.specs.inside.Places.{value_at}
use Rattle.porch_sparse.proofs.Lists.{there, past}
use Rattle.porch_sparse.proofs.sparse.Sparse.get.Goals as goal

pub returns-then-at-self : goal.returns-then-at-self
returns-then-at-self g c =
    let s = c.self.inside in
    rw (← c.self.view_is)
    (sym (there (value_at s.first s.pattern.items s.written) s.len c.args.at c.if-at-self.true
    ∙ ap (λ (v : g.row.V.Denot). let o : Option g.row.V.Denot = Some v in o) (sym (c.value_at.ensures ∙ ap (λ (p : List g.row.V.Denot). value_at s.first p s.written c.args.at) c.deref.ensures.value))))

pub returns-else-at-self : goal.returns-else-at-self
returns-else-at-self g c =
    let s = c.self.inside in
    rw (← c.self.view_is) (sym (past (value_at s.first s.pattern.items s.written) s.len c.args.at (omega (arith, c.if-at-self.false))))
