-- Temporaries by type.
use Rattle.std.specs.Prelude.{ℕ, nat_eq, slice_index_or, if◌then◌else◌}
use Rattle.porch_lowering.specs.Code.{InUse}
use Rattle.porch_emitter.specs.declared.pools.Pool.{Pool}
use Rattle.porch_emitter.specs.declared.pools.Pools.{Pools}

-- those of a type that has none
abbrev pub no_temporaries : Pool
no_temporaries = record { used = 0; most = 0 }

abbrev pub pool_in : Pools → ℕ → Pool
pool_in x ty = slice_index_or x.of.items ty no_temporaries

-- how many of each type are in use, and the most that were
abbrev pub used_in : Pools → InUse
used_in x ty = (pool_in x ty).used

abbrev pub most_in : Pools → InUse
most_in x ty = (pool_in x ty).most

-- so many of a type, and as many as before of each other one
abbrev pub with_number : ℕ → ℕ → InUse → InUse
with_number ty number used t = if nat_eq t ty then number else used t
