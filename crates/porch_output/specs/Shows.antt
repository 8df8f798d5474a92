-- What a buffer in front of a sink has passed on.
use Rattle.std.specs.Prelude.{◌≡◌, ℕ, List, ◌++◌, true}
use Rattle.std.specs.declared.option.Option.{Option}
use Rattle.porch_edge.specs.Streams.{Grew}
use Rattle.porch_output.specs.declared.shown.Shown.{Shown}

-- what waits to be written
abbrev pub waiting : Shown → List ℕ
waiting shown = shown.buffer.items

-- a call has failed, and the buffer is of no more use
abbrev pub IsSpent : Shown → Type 0
IsSpent shown = shown.spent ≡ true

-- the sink gained the front of these bytes, and the rest waits
pub record PassesOn (old new : Option (List ℕ)) (bytes rest : List ℕ) : Type 0 where
  pub front : List ℕ
  pub split : bytes ≡ front ++ rest
  pub grew : Grew old new front
