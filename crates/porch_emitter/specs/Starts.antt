-- Where the temporaries of each type begin.
use Rattle.std.specs.Prelude.{ℕ, slice_index_or}
use Rattle.porch_emitter.specs.declared.starts.Starts.{Starts}

abbrev pub start_in : Starts → ℕ → ℕ
start_in x ty = slice_index_or x.of.items ty x.other
