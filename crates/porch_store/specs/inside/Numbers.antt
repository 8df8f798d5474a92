-- The number of a checkpoint file, where it is open.
use Rattle.std.specs.Prelude.{◌≡◌, ℕ, List}
use Rattle.std.specs.declared.option.Option.{Option}
use Rattle.std.specs.declared.option.Option.TheVariants.{Some, None}
use Rattle.porch_store.specs.Checkpoints.{IsOpen, number_of}

-- the number of an open file, and none of a closed one
abbrev pub HasNumber : List ℕ → Option ℕ → Type 0
HasNumber bytes None = ¬ IsOpen bytes
HasNumber bytes (Some number) = IsOpen bytes × (number ≡ number_of bytes)
