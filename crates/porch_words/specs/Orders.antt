-- What options give, and what an order is.
use Rattle.std.specs.Prelude.{ℕ, ◌≡◌, Option, Some, None, List, codes, Bool, true, false, refl}
use Rattle.porch_values.specs.declared.widths.Widths.{Widths as WidthSet}
use Rattle.porch_session.specs.declared.limits.Limits.{Limits as RunLimits}
use Rattle.porch_session.specs.Limits.{AreLimits}
use Rattle.porch_session.specs.declared.limits.TheConstants.{MOST_TURNS, LEAST_STACK, MOST_STACK, LEAST_HEAP, MOST_HEAP}
use Rattle.porch_words.specs.declared.given.TheConstants.{DEFAULT_LAYOUT, DEFAULT_EVERY, DEFAULT_TURNS, DEFAULT_STACK, DEFAULT_HEAP}
use Rattle.porch_words.specs.declared.order.Order.{Order as CodeOrder}
use Rattle.porch_words.specs.declared.order.Order.TheVariants as ordered
use Rattle.porch_words.specs.declared.command.Command.{Command}
use Rattle.porch_words.specs.declared.command.Command.TheVariants.{Exec, Compile, Start, Resume, Clear, Vet, Show}
use Rattle.porch_words.specs.declared.option.Key.{Key}
use Rattle.porch_words.specs.declared.option.Key.TheVariants.{Layout, Every, Turns, Stack, Heap, Widths}
use Rattle.porch_words.specs.Spelling.{IsNumber, IsLayoutName}

-- An option with its value.
pub data Setting : Type 0 where
  layout : List ℕ → Setting
  every turns stack heap : ℕ → Setting
  widths : WidthSet → Setting

abbrev pub key_of : Setting → Key
key_of (layout name) = Layout
key_of (every n) = Every
key_of (turns n) = Turns
key_of (stack n) = Stack
key_of (heap n) = Heap
key_of (widths w) = Widths

abbrev pub narrow : WidthSet
narrow = record { narrow = true; wide = false; some = refl }

abbrev pub wide : WidthSet
wide = record { narrow = false; wide = true; some = refl }

abbrev pub both : WidthSet
both = record { narrow = true; wide = true; some = refl }

pub data AreWidths (word : List ℕ) : WidthSet → Type 0 where
  only_narrow : word ≡ codes "32" → AreWidths word narrow
  only_wide : word ≡ codes "64" → AreWidths word wide
  both_widths : word ≡ codes "32,64" → AreWidths word both

-- The word is the value of the option.
abbrev pub IsValue : List ℕ → Setting → Type 0
IsValue word (layout name) = IsLayoutName word × (word ≡ name)
IsValue word (every n) = IsNumber 1 MOST_TURNS word n
IsValue word (turns n) = IsNumber 1 MOST_TURNS word n
IsValue word (stack n) = IsNumber LEAST_STACK MOST_STACK word n
IsValue word (heap n) = IsNumber LEAST_HEAP MOST_HEAP word n
IsValue word (widths w) = AreWidths word w

-- What options gave.
pub record Given : Type 0 where
  pub layout : Option (List ℕ)
  pub every : Option ℕ
  pub turns : Option ℕ
  pub stack : Option ℕ
  pub heap : Option ℕ
  pub widths : Option WidthSet

abbrev pub nothing : Given
nothing = record { layout = None; every = None; turns = None; stack = None; heap = None; widths = None }

abbrev pub with_setting : Given → Setting → Given
with_setting g (layout name) = record g { layout = Some name }
with_setting g (every n) = record g { every = Some n }
with_setting g (turns n) = record g { turns = Some n }
with_setting g (stack n) = record g { stack = Some n }
with_setting g (heap n) = record g { heap = Some n }
with_setting g (widths w) = record g { widths = Some w }

abbrev pub is_none : {A : Type 0} → Option A → Bool
is_none None = true
is_none (Some a) = false

-- whether an option wasn't given yet
abbrev pub is_new : Given → Key → Bool
is_new g Layout = is_none g.layout
is_new g Every = is_none g.every
is_new g Turns = is_none g.turns
is_new g Stack = is_none g.stack
is_new g Heap = is_none g.heap
is_new g Widths = is_none g.widths

-- What the words order.
pub data Order : Type 0 where
  exec start resume : (layout : List ℕ) → RunLimits → Order
  compile clear show : Order
  vet : WidthSet → (turns : ℕ) → Order
  drill : (number : ℕ) → Order

-- what the code answers, as one
abbrev pub order_seen : CodeOrder → Order
order_seen (ordered.Exec n l) = exec n.now l
order_seen ordered.Compile = compile
order_seen (ordered.Start n l) = start n.now l
order_seen (ordered.Resume n l) = resume n.now l
order_seen ordered.Clear = clear
order_seen (ordered.Vet w t) = vet w t
order_seen ordered.Show = show
order_seen (ordered.Drill n) = drill n

abbrev pub or_else : {A : Type 0} → Option A → A → A
or_else None a = a
or_else (Some b) a = b

abbrev pub layout_in : Given → List ℕ
layout_in g = or_else g.layout DEFAULT_LAYOUT.now

abbrev pub limits_in : Given → RunLimits
limits_in g =
    record {
      every = or_else g.every DEFAULT_EVERY;
      turns = or_else g.turns DEFAULT_TURNS;
      stack = or_else g.stack DEFAULT_STACK;
      heap = or_else g.heap DEFAULT_HEAP;
    }

-- what a command orders with what its options gave
abbrev pub order_with : Command → Given → Order
order_with Exec g = exec (layout_in g) (limits_in g)
order_with Compile g = compile
order_with Start g = start (layout_in g) (limits_in g)
order_with Resume g = resume (layout_in g) (limits_in g)
order_with Clear g = clear
order_with Vet g = vet (or_else g.widths both) (or_else g.turns DEFAULT_TURNS)
order_with Show g = show

-- what a run is limited to is allowed
abbrev pub IsLimited : Order → Type 0
IsLimited (exec name limits) = AreLimits limits
IsLimited (start name limits) = AreLimits limits
IsLimited (resume name limits) = AreLimits limits
IsLimited _ = Unit {0}
