-- Values by place, as they are kept.
use Rattle.std.specs.Prelude.{ℕ, ◌-◌, ◌%◌, Bool, ◌||◌, nat_eq, nat_le, if◌then◌else◌, List, length, map, slice_get, slice_index_or, is_some}
use Rattle.std.specs.Option.{unwrap_or}
use Rattle.std.specs.Ordering.{nat_cmp}
use Rattle.std.specs.List.{range_with_len}
use Rattle.std.specs.BTreeMap.{BTreeMap, get}

module _ {V : Type 0} where
  -- the value at a place: the first one, the one that was written, or the one of the pattern
  abbrev pub value_at : V → List V → BTreeMap ℕ V → ℕ → V
  value_at first pattern written at =
      if nat_eq at 0 then first else unwrap_or (get nat_cmp written at) (slice_index_or pattern (at % length pattern) first)

  abbrev pub values_of : ℕ → V → List V → BTreeMap ℕ V → List V
  values_of len first pattern written = map (value_at first pattern written) (range_with_len 0 len)

  -- whether a value can be written without memory
  abbrev pub has_place : BTreeMap ℕ V → ℕ → Bool
  has_place written at = nat_eq at 0 || is_some (get nat_cmp written at)

  -- the value at a place where these values stand from a place on, and elsewhere this one
  abbrev pub among : ℕ → List V → ℕ → V → V
  among at values i elsewhere = if nat_le at i then unwrap_or (slice_get values (i - at)) elsewhere else elsewhere
