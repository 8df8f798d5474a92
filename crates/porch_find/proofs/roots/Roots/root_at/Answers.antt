use Rattle.std.proofs.Common.{◌≡◌, ◌↔◌, Some, subst, sym}
use Rattle.porch_find.specs.Roots.{IsRising, IsLastAt}
use Rattle.porch_find.proofs.roots.Roots.root_at.Goals as goal

pub last_at-requires : goal.last_at-requires
last_at-requires c =
    let items : c.as_slice.result.now ≡ c.args.self.now.items = rw (← c.self.view_is) c.as_slice.ensures.value in
    subst IsRising (sym items) c.requires

pub returns-clause-last : goal.returns-clause-last
returns-clause-last c = λ i.
    let items : c.as_slice.result.now ≡ c.args.self.now.items = rw (← c.self.view_is) c.as_slice.ensures.value in
    subst (λ roots. (c.last_at.result ≡ Some i) ↔ IsLastAt roots c.args.place i) items (c.last_at.ensures.last i)
