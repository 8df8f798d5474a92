-- The limits of a run that words order are allowed.
use Rattle.std.proofs.Common.{◌≡◌, ◌≤◌, ◌⊎◌, ℕ, List, [], ◌∷◌, inl, inr, refl, sym, subst, ◌∙◌, arith}
use Rattle.std.specs.declared.option.Option.{Option}
use Rattle.std.specs.declared.option.Option.TheVariants.{Some, None}
use Rattle.porch_session.specs.declared.limits.Limits.{Limits}
use Rattle.porch_session.specs.declared.limits.TheConstants.{MOST_TURNS, LEAST_STACK, MOST_STACK, LEAST_HEAP, MOST_HEAP}
use Rattle.porch_session.specs.Limits.{IsWithin, AreLimits}
use Rattle.porch_words.specs.declared.command.Command.{Command}
use Rattle.porch_words.specs.declared.command.Command.TheVariants.{Exec, Compile, Start, Resume, Clear, Vet, Show}
use Rattle.porch_words.specs.Orders as orders
use Rattle.porch_words.specs.Orders.{Order, Setting, Given, nothing, with_setting, IsValue, or_else, limits_in, order_with, IsLimited}
use Rattle.porch_words.specs.Words.{IsOrder, IsCommand, IsDrill, AreOptions}

-- a number that was given, if any, is within these bounds
abbrev IsGiven : (least most : ℕ) → Option ℕ → Type 0
IsGiven least most None = Unit {0}
IsGiven least most (Some n) = IsWithin least most n

record AreGiven (g : Given) : Type 0 where
  every : IsGiven 1 MOST_TURNS g.every
  turns : IsGiven 1 MOST_TURNS g.turns
  stack : IsGiven LEAST_STACK MOST_STACK g.stack
  heap : IsGiven LEAST_HEAP MOST_HEAP g.heap

with_given : (g : Given) (s : Setting) (word : List ℕ) → IsValue word s → AreGiven g → AreGiven (with_setting g s)
with_given g (orders.layout name) word v a = record { every = a.every; turns = a.turns; stack = a.stack; heap = a.heap }
with_given g (orders.every n) word v a = record { every = v.within; turns = a.turns; stack = a.stack; heap = a.heap }
with_given g (orders.turns n) word v a = record { every = a.every; turns = v.within; stack = a.stack; heap = a.heap }
with_given g (orders.stack n) word v a = record { every = a.every; turns = a.turns; stack = v.within; heap = a.heap }
with_given g (orders.heap n) word v a = record { every = a.every; turns = a.turns; stack = a.stack; heap = v.within }
with_given g (orders.widths w) word v a = record { every = a.every; turns = a.turns; stack = a.stack; heap = a.heap }

options_given : (c : Command) (before given : Given) (ss : List Setting) (words : List (List ℕ)) → AreOptions c before ss words given → AreGiven before → AreGiven given
options_given c before given [] words o a = subst AreGiven (sym o.1) a
options_given c before given (s ∷ ss) words o a =
    options_given c (with_setting before s) given ss o.2.0 o.2.2 (with_given before s o.2.1.value o.2.1.fits a)

within_or : (least most n : ℕ) (g : Option ℕ) → IsGiven least most g → IsWithin least most n → IsWithin least most (or_else g n)
within_or least most n None a d = d
within_or least most n (Some m) a d = a

limits_given : (g : Given) → AreGiven g → AreLimits (limits_in g)
limits_given g a = record {
  every = within_or 1 MOST_TURNS _ g.every a.every (record { low = omega arith; high = omega arith });
  turns = within_or 1 MOST_TURNS _ g.turns a.turns (record { low = omega arith; high = omega arith });
  stack = within_or LEAST_STACK MOST_STACK _ g.stack a.stack (record { low = omega arith; high = omega arith });
  heap = within_or LEAST_HEAP MOST_HEAP _ g.heap a.heap (record { low = omega arith; high = omega arith });
}

by_command : (c : Command) (g : Given) → AreGiven g → IsLimited (order_with c g)
by_command Exec g a = limits_given g a
by_command Compile g a = tt
by_command Start g a = limits_given g a
by_command Resume g a = limits_given g a
by_command Clear g a = tt
by_command Vet g a = tt
by_command Show g a = tt

pub is_limited : (words : List (List ℕ)) (o : Order) → IsOrder words o → IsLimited o
is_limited words o (inl c) = subst IsLimited (sym c.ordered) (by_command c.command c.given (options_given c.command nothing c.given c.settings c.options c.read (record { every = tt; turns = tt; stack = tt; heap = tt })))
is_limited words o (inr d) = subst IsLimited (sym d.ordered) tt
