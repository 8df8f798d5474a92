-- Words order one run, whose limits are allowed.
use Rattle.std.proofs.Common.{◌≡◌, ℕ, List, ap, sym, ◌∙◌}
use Rattle.porch_words.specs.Orders.{Order, exec}
use Rattle.std.specs.Prelude.{IfSome}
use Rattle.std.proofs.Common.{subst}
use Rattle.std.specs.declared.option.Option.{Option}
use Rattle.std.specs.declared.option.Option.TheVariants.{Some, None}
use Rattle.porch_session.specs.declared.limits.Limits.{Limits}
use Rattle.porch_session.specs.Limits.{AreLimits}
use Rattle.porch_words.specs.Orders as orders
use Rattle.porch_words.specs.Orders.{IsLimited}
use Rattle.porch_cli.specs.declared.words.RunOrdered.{RunOrdered}
use Rattle.porch_cli.specs.Words.{RunOrder}
use Rattle.porch_cli.specs.inside.Ordered.{run_of, run_seen, order_of}

names_of : (a b : List ℕ) (l m : Limits) → exec a l ≡ exec b m → a ≡ b
names_of a b l m e = cc

limits_of : (a b : List ℕ) (l m : Limits) → exec a l ≡ exec b m → l ≡ m
limits_of a b l m e = cc

abbrev order_with : List ℕ → Limits → RunOrder
order_with name limits = record { layout = name; limits = limits }

pub exec_once : (o p : RunOrder) → exec o.layout o.limits ≡ exec p.layout p.limits → o ≡ p
exec_once o p e = ap (λ (a : List ℕ). order_with a o.limits) (names_of _ _ _ _ e) ∙ ap (λ (l : Limits). order_with p.layout l) (limits_of _ _ _ _ e)

same_limits : (a b : RunOrder) → (let x : Option RunOrder = Some a in x) ≡ Some b → a.limits ≡ b.limits
same_limits a b e = cc

some_none : (a : RunOrder) → (let x : Option RunOrder = Some a in x) ≡ None → ⊥
some_none a e = cc

pub limited_by : (o : Order) (r : Option RunOrdered) → run_seen r ≡ run_of o → IsLimited o → IfSome r (λ run. AreLimits run.limits)
limited_by o None e l = tt
limited_by (exec name limits) (Some run) e l = subst AreLimits (sym (same_limits (order_of run) (record { layout = name; limits = limits }) e)) l
limited_by (orders.start name limits) (Some run) e l = absurd (some_none _ e)
limited_by (orders.resume name limits) (Some run) e l = absurd (some_none _ e)
limited_by orders.compile (Some run) e l = absurd (some_none _ e)
limited_by orders.clear (Some run) e l = absurd (some_none _ e)
limited_by orders.show (Some run) e l = absurd (some_none _ e)
limited_by (orders.vet widths turns) (Some run) e l = absurd (some_none _ e)
limited_by (orders.drill number) (Some run) e l = absurd (some_none _ e)
