-- The two places of a copy.
use Rattle.std.specs.Prelude.{ℕ, Result, Ok, Err}
use Rattle.porch_values.specs.declared.acts.Act.{Act}
use Rattle.porch_objects.specs.Store.{Home, Value}
use Rattle.porch_objects.specs.Pointers.{if_there, if_place}
use Rattle.porch_live.specs.Views.{home_of}
use Rattle.porch_live.specs.declared.places.Places as code

-- the leaf that is written, and the leaf that is read
pub record Places : Type 0 where
  pub home : Home
  pub leaf : ℕ
  pub other : Home
  pub first : ℕ

abbrev pub both : Value → Value → Result Places Act
both to from = if_place to (λ home leaf. if_place from (λ other first. Ok (record { home = home; leaf = leaf; other = other; first = first })))

-- those of two pointers, or the act that is met first
abbrev pub places : Value → Value → Result Places Act
places to from = if_there to (λ to. if_there from (λ from. both to from))

abbrev pub places_in : Result code.Places Act → Result Places Act
places_in (Ok p) = Ok (record { home = home_of p.home; leaf = p.leaf; other = home_of p.other; first = p.first })
places_in (Err act) = Err act
