use Rattle.std.proofs.Common.{◌≡◌, ◌≤◌, ◌+◌, ◌*◌, ◌^◌, ◌++◌, drop}
use Rattle.porch_metrics.specs.Extents.{extent_of}
use Rattle.porch_bytes.specs.Memory.{places_from, free_after}
use Rattle.porch_map.specs.Known.{AreKnown}
use Rattle.porch_map.proofs.objects.place_objects.Given as goal

abbrev pub invariant-loop-ty : goal.invariant-loop-ty
invariant-loop-ty l = record {
  places : l.places.items ++ places_from (extent_of l.fn.metrics.layout l.fn.metrics.types) l.end (drop l.ty-index l.types)
      ≡ places_from (extent_of l.fn.metrics.layout l.fn.metrics.types) l.fn.free l.types;
  last : free_after (extent_of l.fn.metrics.layout l.fn.metrics.types) l.end (drop l.ty-index l.types)
      ≡ free_after (extent_of l.fn.metrics.layout l.fn.metrics.types) l.fn.free l.types;
  known : AreKnown l.fn.metrics.types (drop l.ty-index l.types);
  low : l.end ≤ 16 + l.ty-index * (2 ^ 24 + 8);
}
