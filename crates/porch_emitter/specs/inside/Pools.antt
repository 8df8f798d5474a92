-- Temporaries of types that have a place.
use Rattle.std.specs.Prelude.{ℕ, ◌<◌, max, length}
use Rattle.porch_emitter.specs.declared.pools.Pool.{Pool}
use Rattle.porch_emitter.specs.declared.pools.Pools.{Pools}

abbrev pub has_place : ℕ → Pools → Type 0
has_place ty x = ty < length x.of.items

-- what is in use counts
abbrev pub counted : Pool → Pool
counted pool = record { used = pool.used; most = max pool.most pool.used }
